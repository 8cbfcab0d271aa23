use Rattle.std.proofs.Common.{◌∙◌, ap}
use Rattle.cookie_rows.specs.Stored.{paths_in}
use Rattle.cookie_rows.specs.declared.paths.PathMap.TheVariants as Groups
use Rattle.cookie_rows.proofs.StoredOrder.{shown_groups, table_in_order}
use Rattle.cookie_rows.proofs.paths.Paths.retain.Goals as goal

pub returns-in-Table : goal.returns-in-Table
returns-in-Table g c =
    let shown = ap paths_in c.as_mut.ensures.value ∙ shown_groups c.self.inside.groups (Groups.Table c.in-Table.groups) c.args.self.now c.in-Table.is c.self.view_is in
    rw (table_in_order c.retain_in.new.groups, ← shown) c.retain_in.ensures
