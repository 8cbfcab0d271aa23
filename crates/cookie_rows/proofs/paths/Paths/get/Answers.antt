use Rattle.std.proofs.Common.{List, ◌∙◌}
use Rattle.cookie_lookup.specs.Positions.{paths_in_order}
use Rattle.cookie_rows.specs.GroupChanges.{row_named}
use Rattle.ordered_map.specs.Entries.{in_order}
use Rattle.cookie_rows.specs.Items.{rows_of, Item}
use Rattle.cookie_rows.proofs.StoredPaths.{found_there, none_there}
use Rattle.cookie_rows.proofs.paths.Paths.get.Goals as goal

pub returns-in-Some : goal.returns-in-Some
returns-in-Some c =
    let named = λ (items : List Item). row_named c.args.name.now (rows_of items) in
    c.get.ensures ∙ found_there named c.args.path.now (paths_in_order c.args.self.now) (in_order c.in-Some.group.now) c.in-Some.ensures.in_order

pub returns-in-None : goal.returns-in-None
returns-in-None c =
    none_there (λ (items : List Item). row_named c.args.name.now (rows_of items)) c.args.path.now (paths_in_order c.args.self.now) c.in-None.ensures.in_order
