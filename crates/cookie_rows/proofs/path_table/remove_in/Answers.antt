use Rattle.std.proofs.Common.{◌≡◌, ◌∙◌, sym, ap, bytes_eq, true, false}
use Rattle.cookie_laws.specs.Rows.{removed}
use Rattle.ordered_map.specs.Entries.{entries, in_order}
use Rattle.cookie_rows.specs.GroupChanges.{texts_by, is_empty_at, changed_at}
use Rattle.cookie_rows.specs.Items.{remove_item}
use Rattle.cookie_rows.specs.Stored.{paths_in}
use Rattle.cookie_rows.proofs.Maps.{texts_removed, lessened_some, lessened_none}
use Rattle.cookie_rows.proofs.path_table.remove_in.Goals as goal

pub returns-then-is_empty-clause-removed : goal.returns-then-is_empty-clause-removed
returns-then-is_empty-clause-removed c =
    let q = c.args.path.now in
    let change = remove_item c.args.name.now in
    let gs = paths_in c.args.groups.now in
    let empty : is_empty_at q (changed_at change q gs) ≡ true = ap (is_empty_at q) (sym c.take_named-row.ensures.groups) ∙ sym c.take_named-row.ensures.is_empty ∙ c.if-is_empty.true in
    ap (texts_by in_order) c.remove.ensures.removed ∙ texts_removed in_order q (entries c.take_named-row.new.groups)
    ∙ ap (removed (λ g. bytes_eq q g.0)) c.take_named-row.ensures.groups ∙ lessened_none change q gs empty

pub returns-else-is_empty-clause-removed : goal.returns-else-is_empty-clause-removed
returns-else-is_empty-clause-removed c =
    let q = c.args.path.now in
    let change = remove_item c.args.name.now in
    let gs = paths_in c.args.groups.now in
    let some : is_empty_at q (changed_at change q gs) ≡ false = ap (is_empty_at q) (sym c.take_named-row.ensures.groups) ∙ sym c.take_named-row.ensures.is_empty ∙ c.if-is_empty.false in
    c.take_named-row.ensures.groups ∙ lessened_some change q gs some
