use Rattle.std.proofs.Common.{◌≡◌, [], ◌∷◌, ◌++◌, ap, drop, map, arith, append_assoc, ◌∙◌}
use Rattle.std.proofs.lemmas.List.{drop_all}
use Rattle.std.proofs.lemmas.Result.{on_ok_weaker}
use Rattle.json.specs.Token.{begin_array}
use Rattle.json.specs.Tree.{items_tokens}
use Rattle.serde_json.specs.View.{items_of}
use Rattle.serde_json.specs.Written.{items_outline}
use Rattle.cookie_forms.specs.Saved.{saved_view}
use Rattle.cookie_forms.specs.ToJson.{saved_tree}
use Rattle.cookie_forms.proofs.tokens.write_list.Goals as goal

pub returns-clause-tokens : goal.returns-clause-tokens
returns-clause-tokens g c =
    let l = c.loop-saved in
    let list = c.args.list.now in
    let none : drop l.saved-index list ≡ [] = drop_all l.saved-index list (omega arith) in
    let all = items_tokens (items_outline (items_of (map saved_tree (map saved_view list)))) in
    let closed = rw none at l.invariant.2 in
    on_ok_weaker c.token-2.result (λ last.
    last ∙ closed ∙ ap (λ ts. ts ++ all) c.in_ok-token.ensures.tokens
    ∙ append_assoc (g.W.Tokens.tokens c.args.out.now) (begin_array ∷ []) all) c.token-2.ensures.tokens
