use Rattle.std.proofs.Common.{◌∙◌, ap, sym}
use Rattle.ordered_map.specs.Entries.{entries}
use Rattle.cookie_lookup.specs.Positions.{paths_in_order}
use Rattle.cookie_rows.specs.GroupChanges.{texts_by}
use Rattle.cookie_rows.specs.Eviction.{is_single_paths}
use Rattle.cookie_rows.proofs.OrderedDomains.{map_stays, map_stays_none, moved_last}
use Rattle.cookie_rows.proofs.domains.move_domain_to_end.Goals as goal

pub returns-then-is_single : goal.returns-then-is_single
returns-then-is_single c =
    ap (texts_by paths_in_order) c.move_to_end.ensures.moved
    ∙ moved_last paths_in_order is_single_paths c.args.domain.now (entries c.args.groups.now) c.in-Some.group.now c.in-Some.ensures (sym c.if-is_single.ensures)

pub returns-else-is_single : goal.returns-else-is_single
returns-else-is_single c =
    sym (map_stays paths_in_order is_single_paths c.args.domain.now (entries c.args.groups.now) c.in-Some.group.now c.in-Some.ensures (sym c.if-is_single.ensures))

pub returns-in_default : goal.returns-in_default
returns-in_default c =
    sym (map_stays_none paths_in_order is_single_paths c.args.domain.now (entries c.args.groups.now) c.in_default.ensures)
