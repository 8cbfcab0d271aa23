use Rattle.std.proofs.Common.{◌≡◌, ◌++◌, drop, false, map}
use Rattle.std.specs.List.{list_any}
use Rattle.json.specs.Tree.{items_tokens}
use Rattle.serde_json.specs.View.{items_of}
use Rattle.serde_json.specs.Written.{items_outline}
use Rattle.cookie_forms.specs.Saved.{saved_view}
use Rattle.cookie_forms.specs.ToJson.{is_early, saved_tree}
use Rattle.cookie_forms.proofs.tokens.write_list.Given as goal

-- what is written, with the tokens of the rest of the list, has the tokens of the whole list
abbrev pub invariant-loop-saved : goal.invariant-loop-saved
invariant-loop-saved g l =
    let rest = map saved_view (drop l.saved-index l.list) in
    (list_any is_early rest ≡ false)
    × (g.W.Tokens.before l.out ≡ g.W.Tokens.before l.initial.out)
    × (g.W.Tokens.tokens l.out ++ items_tokens (items_outline (items_of (map saved_tree rest)))
    ≡ g.W.Tokens.tokens l.initial.out ++ items_tokens (items_outline (items_of (map saved_tree (map saved_view l.list)))))
