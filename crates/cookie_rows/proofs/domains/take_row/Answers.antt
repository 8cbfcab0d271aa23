use Rattle.std.proofs.Common.{◌∙◌, sym, ap}
use Rattle.ordered_map.specs.Entries.{entries}
use Rattle.cookie_lookup.specs.Positions.{paths_in_order}
use Rattle.cookie_rows.specs.GroupChanges.{texts_by, is_empty_at}
use Rattle.cookie_rows.specs.Items.{find_item_paths, remove_item_paths}
use Rattle.cookie_rows.specs.Stored.{domains_in}
use Rattle.cookie_rows.proofs.Maps.{changed_set, changed_none, found_some, found_none, empty_set, empty_none}
use Rattle.cookie_rows.proofs.Results.{known_some}
use Rattle.cookie_rows.proofs.domains.take_row.Goals as goal

pub returns-in-Some-clause-value : goal.returns-in-Some-clause-value
returns-in-Some-clause-value c =
    c.remove-row.ensures.value ∙ found_some paths_in_order (find_item_paths c.args.path.now c.args.name.now) c.args.domain.now (entries c.args.groups.now) c.in-Some.group.now c.in-Some.ensures.value

pub returns-in-Some-clause-groups : goal.returns-in-Some-clause-groups
returns-in-Some-clause-groups c =
    let es = entries c.args.groups.now in
    ap (texts_by paths_in_order) (known_some c.get_mut.result c.in-Some.is (c.get_mut.follows.holds c.remove-row.new.self)).written
    ∙ changed_set paths_in_order (remove_item_paths c.args.path.now c.args.name.now) c.args.domain.now es c.in-Some.group.now c.remove-row.new.self c.in-Some.ensures.value c.remove-row.ensures.removed

pub returns-in-Some-clause-is_empty : goal.returns-in-Some-clause-is_empty
returns-in-Some-clause-is_empty c =
    let es = entries c.args.groups.now in
    c.is_empty.ensures
    ∙ empty_set paths_in_order c.args.domain.now es c.in-Some.group.now c.remove-row.new.self c.in-Some.ensures.value
    ∙ ap (λ fs. is_empty_at c.args.domain.now (texts_by paths_in_order fs)) (sym (known_some c.get_mut.result c.in-Some.is (c.get_mut.follows.holds c.remove-row.new.self)).written)

pub returns-in-None-clause-value : goal.returns-in-None-clause-value
returns-in-None-clause-value c = found_none paths_in_order (find_item_paths c.args.path.now c.args.name.now) c.args.domain.now (entries c.args.groups.now) c.in-None.ensures.value

pub returns-in-None-clause-groups : goal.returns-in-None-clause-groups
returns-in-None-clause-groups c =
    ap domains_in c.get_mut.follows.holds-at-none ∙ changed_none paths_in_order (remove_item_paths c.args.path.now c.args.name.now) c.args.domain.now (entries c.args.groups.now) c.in-None.ensures.value

pub returns-in-None-clause-is_empty : goal.returns-in-None-clause-is_empty
returns-in-None-clause-is_empty c =
    empty_none paths_in_order c.args.domain.now (entries c.args.groups.now) c.in-None.ensures.value ∙ ap (λ m. is_empty_at c.args.domain.now (domains_in m)) (sym c.get_mut.follows.holds-at-none)
