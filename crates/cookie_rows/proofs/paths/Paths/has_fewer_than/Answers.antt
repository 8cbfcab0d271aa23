use Rattle.std.proofs.Common.{◌≡◌, ℕ, ◌+◌, ◌<◌, false, arith, length}
use Rattle.std.specs.Prelude.{nat_lt}
use Rattle.std.proofs.lemmas.Bool.Decides.{nat_tests}
use Rattle.cookie_lookup.specs.Positions.{paths_in_order}
use Rattle.cookie_rows.specs.Least.{items_in_paths}
use Rattle.cookie_rows.proofs.paths.Paths.has_fewer_than.Goals as goal

-- there is room if and only if there are fewer than the limit
some_room : (count room limit : ℕ) → count + room ≡ limit → nat_lt 0 room ≡ nat_lt count limit
some_room count room limit is = grind (arith, nat_tests, is)

-- there is none if there are more
no_room : (count limit : ℕ) → limit < count → false ≡ nat_lt count limit
no_room count limit more = grind (arith, nat_tests, more)

pub returns-in-Some : goal.returns-in-Some
returns-in-Some c = some_room (length (items_in_paths (paths_in_order c.args.self.now))) c.in-Some.room c.args.limit c.in-Some.ensures.room

pub returns-in-None : goal.returns-in-None
returns-in-None c = no_room (length (items_in_paths (paths_in_order c.args.self.now))) c.args.limit c.in-None.ensures.none
