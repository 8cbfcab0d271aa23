use Rattle.std.proofs.Common.{◌∙◌, sym, ap}
use Rattle.ordered_map.specs.Entries.{entries, in_order}
use Rattle.cookie_rows.specs.GroupChanges.{texts_by, is_empty_at, row_named}
use Rattle.cookie_rows.specs.Items.{remove_item, rows_of}
use Rattle.cookie_rows.specs.Stored.{paths_in}
use Rattle.cookie_rows.proofs.Maps.{changed_set, changed_none, found_some, found_none, empty_set, empty_none}
use Rattle.cookie_rows.proofs.Results.{known_some}
use Rattle.cookie_rows.proofs.path_table.take_named.Goals as goal

pub returns-in-Some-clause-value : goal.returns-in-Some-clause-value
returns-in-Some-clause-value c =
    c.remove-row.ensures.value ∙ found_some in_order (λ items. row_named c.args.name.now (rows_of items)) c.args.path.now (entries c.args.groups.now) c.in-Some.group.now c.in-Some.ensures.value

pub returns-in-Some-clause-groups : goal.returns-in-Some-clause-groups
returns-in-Some-clause-groups c =
    ap (texts_by in_order) (known_some c.get_mut.result c.in-Some.is (c.get_mut.follows.holds c.remove-row.new.self)).written
    ∙ changed_set in_order (remove_item c.args.name.now) c.args.path.now (entries c.args.groups.now) c.in-Some.group.now c.remove-row.new.self c.in-Some.ensures.value c.remove-row.ensures.removed

pub returns-in-Some-clause-is_empty : goal.returns-in-Some-clause-is_empty
returns-in-Some-clause-is_empty c =
    c.is_empty.ensures
    ∙ empty_set in_order c.args.path.now (entries c.args.groups.now) c.in-Some.group.now c.remove-row.new.self c.in-Some.ensures.value
    ∙ ap (λ fs. is_empty_at c.args.path.now (texts_by in_order fs)) (sym (known_some c.get_mut.result c.in-Some.is (c.get_mut.follows.holds c.remove-row.new.self)).written)

pub returns-in-None-clause-value : goal.returns-in-None-clause-value
returns-in-None-clause-value c = found_none in_order (λ items. row_named c.args.name.now (rows_of items)) c.args.path.now (entries c.args.groups.now) c.in-None.ensures.value

pub returns-in-None-clause-groups : goal.returns-in-None-clause-groups
returns-in-None-clause-groups c =
    ap paths_in c.get_mut.follows.holds-at-none ∙ changed_none in_order (remove_item c.args.name.now) c.args.path.now (entries c.args.groups.now) c.in-None.ensures.value

pub returns-in-None-clause-is_empty : goal.returns-in-None-clause-is_empty
returns-in-None-clause-is_empty c =
    empty_none in_order c.args.path.now (entries c.args.groups.now) c.in-None.ensures.value ∙ ap (λ m. is_empty_at c.args.path.now (paths_in m)) (sym c.get_mut.follows.holds-at-none)
