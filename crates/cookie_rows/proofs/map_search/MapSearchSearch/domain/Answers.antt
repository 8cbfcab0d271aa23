use Rattle.std.proofs.Common.{◌∙◌}
use Rattle.cookie_lookup.specs.Positions.{groups_by_position}
use Rattle.cookie_rows.specs.Items.{bare_paths}
use Rattle.cookie_rows.specs.Stored.{stored_in}
use Rattle.cookie_rows.proofs.Places.{viewed_place}
use Rattle.cookie_rows.proofs.StoredPositions.{position_is}
use Rattle.cookie_rows.proofs.map_search.MapSearchSearch.domain.Goals as goal

pub returns-clause-position : goal.returns-clause-position
returns-clause-position c =
    let m = c.args.self.now.groups.now in
    c.position.ensures.position ∙ position_is c.args.text.now m.by_position ∙ viewed_place bare_paths c.args.text.now (groups_by_position (stored_in m))
