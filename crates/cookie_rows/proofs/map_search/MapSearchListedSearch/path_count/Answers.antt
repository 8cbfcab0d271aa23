use Rattle.std.proofs.Common.{◌∙◌, ap, length}
use Rattle.cookie_lookup.specs.Positions.{groups_by_position}
use Rattle.cookie_rows.specs.Stored.{stored_in}
use Rattle.cookie_rows.proofs.Places.{bare_count}
use Rattle.cookie_rows.proofs.StoredPositions.{group_at, no_group_at, path_count}
use Rattle.cookie_rows.proofs.map_search.MapSearchListedSearch.path_count.Goals as goal

pub returns-in-Some : goal.returns-in-Some
returns-in-Some c =
    let m = c.args.self.now.groups.now in
    let paths = c.in-Some.paths.now in
    c.len.ensures.stored ∙ path_count paths ∙ ap length (group_at m.by_position c.args.domain paths c.in-Some.ensures.value) ∙ bare_count c.args.domain (groups_by_position (stored_in m))

pub returns-in-None : goal.returns-in-None
returns-in-None c =
    let m = c.args.self.now.groups.now in
    ap length (no_group_at m.by_position c.args.domain c.in-None.ensures.value) ∙ bare_count c.args.domain (groups_by_position (stored_in m))
