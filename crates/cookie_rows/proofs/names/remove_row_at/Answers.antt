use Rattle.std.proofs.Common.{◌∙◌, ap, map, subst, sym}
use Rattle.std.specs.Prelude.{option_map, slice_get}
use Rattle.std.specs.Map.{values_of}
use Rattle.ordered_map.specs.Entries.{entries}
use Rattle.cookie_rows.specs.Least.{TakesOut}
use Rattle.cookie_rows.specs.NameMaps.{items_of, stored_rows}
use Rattle.cookie_rows.proofs.StoredAt.{content_there}
use Rattle.cookie_rows.proofs.StoredOrder.{indexed_contents}
use Rattle.cookie_rows.proofs.names.remove_row_at.Goals as goal

pub returns-in-List-clause-removed : goal.returns-in-List-clause-removed
returns-in-List-clause-removed c item there =
    let at = c.args.position in
    let rows = c.in-List.rows.value in
    let own = c.as_mut.ensures.value in
    let here = ap (λ v. slice_get v.items at) own ∙ ap (λ items. slice_get items at) (sym (indexed_contents 0 rows.items))
    ∙ ap (λ r. slice_get (map (λ i. i.1) (stored_rows r)) at) (sym c.in-List.is) ∙ there in
    subst (λ items. TakesOut item items c.remove_at_among.new.rows.items) (ap (λ v. v.items) own ∙ ap items_of (sym c.in-List.is)) (c.remove_at_among.ensures.removed item here)

pub returns-in-Table-clause-removed : goal.returns-in-Table-clause-removed
returns-in-Table-clause-removed c item there =
    let at = c.args.position in
    let rows = c.in-Table.rows.value in
    let own = c.as_mut-in-Table.ensures.value in
    let here = ap (λ m. option_map (λ e. e.1.1) (slice_get m.by_position at)) own ∙ content_there (λ e. e.1) rows.by_position at
    ∙ ap (λ r. slice_get (map (λ i. i.1) (stored_rows r)) at) (sym c.in-Table.is) ∙ there in
    subst (λ items. TakesOut item items (values_of (entries c.remove_at_in.new.rows))) (ap (λ m. values_of (entries m)) own ∙ ap items_of (sym c.in-Table.is)) (c.remove_at_in.ensures.removed item here)
