-- The rows so far were counted.
use Rattle.std.proofs.Common.{◌≡◌, ◌+◌, length}
use Rattle.std.specs.List.{flat_map}
use Rattle.ordered_map.specs.Entries.{in_order}
use Rattle.cookie_rows.proofs.paths.Paths.row_count.Given as goal

abbrev pub invariant-loop-names : goal.invariant-loop-names
invariant-loop-names l = record { counted : l.count + length (flat_map in_order l.names-iterator) ≡ length (flat_map in_order l.initial.names-iterator) }
