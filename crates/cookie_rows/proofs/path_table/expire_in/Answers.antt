use Rattle.std.proofs.Common.{◌∙◌, ap}
use Rattle.ordered_map.specs.Entries.{entries, in_order}
use Rattle.cookie_rows.specs.GroupChanges.{texts_by}
use Rattle.cookie_rows.specs.Items.{expire_item}
use Rattle.cookie_rows.specs.Stored.{paths_in}
use Rattle.cookie_rows.proofs.Maps.{changed_set, changed_none}
use Rattle.cookie_rows.proofs.Results.{known_some}
use Rattle.cookie_rows.proofs.path_table.expire_in.Goals as goal

pub returns-in-Some : goal.returns-in-Some
returns-in-Some c =
    ap (texts_by in_order) (known_some c.get_mut.result c.in-Some.is (c.get_mut.follows.holds c.expire.new.self)).written
    ∙ changed_set in_order (expire_item c.args.name.now) c.args.path.now (entries c.args.groups.now) c.in-Some.group.now c.expire.new.self c.in-Some.ensures.value c.expire.ensures

pub returns-in-None : goal.returns-in-None
returns-in-None c =
    ap paths_in c.get_mut.follows.holds-at-none
    ∙ changed_none in_order (expire_item c.args.name.now) c.args.path.now (entries c.args.groups.now) c.in-None.ensures.value
