use Rattle.std.proofs.Common.{◌∙◌, ap, map, refl, subst, sym}
use Rattle.std.specs.Prelude.{slice_get}
use Rattle.ordered_map.specs.Entries.{in_order}
use Rattle.cookie_rows.specs.Least.{TakesOut}
use Rattle.cookie_rows.specs.NameMaps.{items_of}
use Rattle.cookie_rows.proofs.StoredOrder.{rows_in_order, shown_rows}
use Rattle.cookie_rows.proofs.names.Names.remove_at.Goals as goal

pub returns : goal.returns
returns c item there =
    let rows = c.self.inside.rows in
    let left = c.remove_row_at.new.rows in
    let taken = c.remove_row_at.ensures.removed item (ap (λ s. slice_get (map (λ i. i.1) s) c.args.position) c.self.view_is ∙ there) in
    subst (TakesOut item (in_order c.args.self.now)) (sym (rows_in_order left))
    (subst (λ items. TakesOut item items (items_of left)) (shown_rows rows rows c.args.self.now refl c.self.view_is) taken)
