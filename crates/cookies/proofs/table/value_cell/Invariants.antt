-- The characters so far are shown.
use Rattle.std.proofs.Common.{◌≡◌, ◌≤◌, flat_map, length, string_bytes}
use Rattle.cookies.specs.Escapes.{escaped_char}
use Rattle.cookies.proofs.table.value_cell.Given as goal

abbrev pub invariant-loop-c : goal.invariant-loop-c
invariant-loop-c l = record {
  shown : string_bytes l.cell ≡ flat_map escaped_char l.yielded;
  count : l.count ≡ length l.yielded;
  few : l.count ≤ 40;
}
