-- What an iterator over one level of the maps still yields.
use Rattle.std.specs.Prelude.{List, [], Option, Some, None}

-- the values of a table, if there is one
abbrev pub left_in : {X : Type 0} → Option (List X) → List X
left_in None = []
left_in (Some values) = values
