use Rattle.cookie_rows.proofs.StoredPositions.{no_place_at, place_at}
use Rattle.cookie_rows.proofs.map_search.place_of.Goals as goal

pub returns-in-Some : goal.returns-in-Some
returns-in-Some c = place_at c.args.groups.now.by_position c.args.domain c.in-Some.place c.in-Some.ensures.place

pub returns-in-None : goal.returns-in-None
returns-in-None c = no_place_at c.args.groups.now.by_position c.args.domain c.in-None.ensures.place
