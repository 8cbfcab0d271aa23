use Rattle.std.proofs.Common.{◌∷◌, ◌∙◌, [], ap, subst, sym}
use Rattle.std.specs.Prelude.{string_bytes}
use Rattle.ordered_map.specs.Entries.{in_order}
use Rattle.cookie_rows.specs.Least.{RemovesAt, stored_at}
use Rattle.cookie_rows.specs.PathMaps.{groups_of, stored_groups}
use Rattle.cookie_rows.proofs.Maps.{none_kept, some_kept}
use Rattle.cookie_rows.proofs.TakenOut.{single_taken}
use Rattle.cookie_rows.proofs.path_removal.without_row_at.Goals as goal

pub returns-then-is_empty : goal.returns-then-is_empty
returns-then-is_empty c text item there =
    let own = string_bytes c.in-Single.own in
    let left = c.remove_at.new.self in
    let here = ap (λ gs. stored_at (stored_groups gs) c.args.path c.args.row) (sym c.in-Single.is) ∙ there in
    subst (λ gs. RemovesAt item (groups_of gs) []) (sym c.in-Single.is)
    (subst (RemovesAt item ((own, in_order c.in-Single.names) ∷ [])) (sym (none_kept own (in_order left) [] (sym c.is_empty.ensures ∙ c.if-is_empty.true)))
    (single_taken own c.in-Single.names left c.args.path c.args.row text item c.if-path-ne0.false here c.remove_at.ensures))

pub returns-else-is_empty : goal.returns-else-is_empty
returns-else-is_empty c text item there =
    let own = string_bytes c.in-Single.own in
    let left = c.remove_at.new.self in
    let here = ap (λ gs. stored_at (stored_groups gs) c.args.path c.args.row) (sym c.in-Single.is) ∙ there in
    subst (λ gs. RemovesAt item (groups_of gs) ((own, in_order left) ∷ [])) (sym c.in-Single.is)
    (subst (RemovesAt item ((own, in_order c.in-Single.names) ∷ [])) (sym (some_kept own (in_order left) [] (sym c.is_empty.ensures ∙ c.if-is_empty.false)))
    (single_taken own c.in-Single.names left c.args.path c.args.row text item c.if-path-ne0.false here c.remove_at.ensures))
