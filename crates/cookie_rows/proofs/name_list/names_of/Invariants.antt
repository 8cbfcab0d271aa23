-- The names of the rows before the index.
use Rattle.std.proofs.Common.{◌≡◌, map, string_bytes, take}
use Rattle.cookie_rows.specs.NameMaps.{names_in}
use Rattle.cookie_rows.proofs.name_list.names_of.Given as goal

abbrev pub invariant-loop-row : goal.invariant-loop-row
invariant-loop-row l = map string_bytes l.names.items ≡ names_in (take l.row-index l.rows)
