use Rattle.std.proofs.Common.{◌∙◌}
use Rattle.ordered_map.specs.Entries.{entries}
use Rattle.cookie_lookup.specs.Positions.{paths_in_order}
use Rattle.cookie_rows.specs.Items.{find_item_paths}
use Rattle.cookie_rows.proofs.Maps.{found_some, found_none}
use Rattle.cookie_rows.proofs.domains.find_row.Goals as goal

pub returns-in-Some : goal.returns-in-Some
returns-in-Some c = c.get-in-Some.ensures ∙ found_some paths_in_order (find_item_paths c.args.path.now c.args.name.now) c.args.domain.now (entries c.args.groups.now) c.in-Some.group.now c.in-Some.ensures

pub returns-in-None : goal.returns-in-None
returns-in-None c = found_none paths_in_order (find_item_paths c.args.path.now c.args.name.now) c.args.domain.now (entries c.args.groups.now) c.in-None.ensures
