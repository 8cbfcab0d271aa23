use Rattle.std.proofs.Common.{◌≡◌, ◌++◌, ap, ◌∙◌, map, string_bytes}
use Rattle.std.proofs.lemmas.Result.{IfOk-at_ok}
use Rattle.std.specs.String.{string_vec}
use Rattle.json.specs.Lex.{tokens}
use Rattle.cookie_forms.specs.Saved.{saved_view}
use Rattle.cookie_forms.specs.JsonText.{tokens_of_tree}
use Rattle.cookie_forms.specs.ToJson.{list_tree}
use Rattle.cookie_forms.proofs.TokensBack.{pretty_back}
use Rattle.cookie_forms.proofs.text_writer.format_list.Goals as goal

pub returns : goal.returns
returns c =
    let ps = map saved_view c.args.list.now in
    let ts = c.write_list.new.out in
    let bytes = IfOk-at_ok (λ t. string_vec t ≡ c.into_inner.result) c.unwrap.ensures c.from_utf8.ensures.ok in
    let items = ap (λ v. v.items) bytes in
    record {
      text = pretty_back (string_bytes c.unwrap.result) ps ts c.requires
          (c.in_ok-write_list.ensures.tokens ∙ ap (λ old. old ++ tokens_of_tree (list_tree ps)) c.new-out.ensures)
          (items ∙ c.into_inner.ensures.layout) (ap tokens items ∙ c.into_inner.ensures.value);
    }
