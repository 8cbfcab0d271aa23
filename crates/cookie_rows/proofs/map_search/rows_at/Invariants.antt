-- The rows at the positions that were passed.
use Rattle.std.proofs.Common.{◌≡◌, map, take}
use Rattle.std.specs.List.{flat_map}
use Rattle.cookie_lookup.specs.SearchView.{rows_at}
use Rattle.cookie_lookup.specs.Positions.{groups_by_position}
use Rattle.cookie_rows.specs.Items.{bare}
use Rattle.cookie_rows.specs.Stored.{stored_in}
use Rattle.cookie_rows.proofs.map_search.rows_at.Given as goal

abbrev pub invariant-loop-row_position : goal.invariant-loop-row_position
invariant-loop-row_position l = map (λ c. c.now) l.cookies.items ≡ flat_map (rows_at (bare (groups_by_position (stored_in l.groups)))) (take l.row_position-index l.positions)
