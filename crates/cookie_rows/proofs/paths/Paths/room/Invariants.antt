-- The rows so far and the room are the limit.
use Rattle.std.proofs.Common.{◌≡◌, ◌+◌, length}
use Rattle.std.specs.List.{flat_map}
use Rattle.ordered_map.specs.Entries.{in_order}
use Rattle.cookie_rows.proofs.paths.Paths.room.Given as goal

abbrev pub invariant-loop-names : goal.invariant-loop-names
invariant-loop-names l = record { room : length (flat_map in_order l.names-iterator) + l.limit ≡ length (flat_map in_order l.initial.names-iterator) + l.room }
