use Rattle.std.proofs.Common.{◌≡◌, ◌++◌, ap, ◌∙◌, string_bytes}
use Rattle.std.proofs.lemmas.Result.{IfOk-at_ok}
use Rattle.std.specs.String.{string_vec}
use Rattle.json.specs.Lex.{tokens}
use Rattle.json.specs.Print.{print}
use Rattle.cookie_forms.specs.Saved.{saved_view}
use Rattle.cookie_forms.specs.JsonText.{tokens_of_tree}
use Rattle.cookie_forms.specs.ToJson.{saved_tree}
use Rattle.cookie_forms.proofs.TokensBack.{compact_back}
use Rattle.cookie_forms.proofs.text_writer.format_saved.Goals as goal

pub returns : goal.returns
returns c =
    let p = saved_view c.args.saved.now in
    let ts = c.write_saved.new.out.tokens in
    let empty = c.in_ok-write_saved.ensures.before ∙ c.new-out.ensures.before ∙ c.in_ok-with_capacity.ensures.items in
    let bytes = IfOk-at_ok (λ t. string_vec t ≡ c.into_inner.result) c.unwrap.ensures c.from_utf8.ensures.ok in
    let text : string_bytes c.unwrap.result ≡ print ts = ap (λ v. v.items) bytes ∙ c.into_inner.ensures.items ∙ ap (λ b. b ++ print ts) empty in
    record {
      text = compact_back (string_bytes c.unwrap.result) p ts c.requires
          (c.in_ok-write_saved.ensures.tokens ∙ ap (λ old. old ++ tokens_of_tree (saved_tree p)) c.new-out.ensures.tokens) text (ap tokens text ∙ c.into_inner.ensures.reads_back);
    }
