use Rattle.std.proofs.Common.{◌++◌, ap, codes, ◌∙◌}
use Rattle.std.proofs.lemmas.Result.{on_ok_weaker}
use Rattle.cookie_forms.specs.JsonText.{tokens_of_tree}
use Rattle.cookie_forms.specs.ToJson.{tagged_tree}
use Rattle.cookie_forms.proofs.tokens.write_expiry.Goals as goal

pub returns-in-AtUtc-clause-tokens : goal.returns-in-AtUtc-clause-tokens
returns-in-AtUtc-clause-tokens g c =
    let read = rw c.unwrap.ensures at c.from_utf8.ensures.cases in
    let text = read.0 ∙ c.moment_bytes-text.ensures.text in
    rw c.in-AtUtc.is (
    on_ok_weaker c.write_tagged.result
    (λ e. e ∙ ap (λ s. g.W.Tokens.tokens c.args.out.now ++ tokens_of_tree (tagged_tree (codes "AtUtc") s)) text) c.write_tagged.ensures.tokens
    )

pub returns-in-SessionEnd-clause-tokens : goal.returns-in-SessionEnd-clause-tokens
returns-in-SessionEnd-clause-tokens g c = rw c.in-SessionEnd.is c.token.ensures.tokens
