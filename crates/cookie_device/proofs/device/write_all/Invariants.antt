-- All bytes but `rest` were appended, and no call has failed.
use Rattle.std.proofs.Common.{◌≡◌, ℕ, List, ◌++◌, length}
use Rattle.std.specs.Io.KnownBytes.{Appends}
use Rattle.cookie_device.proofs.device.write_all.Given as goal

abbrev pub invariant-loop-rest : goal.invariant-loop-rest
invariant-loop-rest g l =
    (sent : List ℕ) × (l.fn.bytes ≡ sent ++ l.rest)
    × Appends (g.W.Sink.state l.initial.sink).contents (g.W.Sink.state l.sink).contents sent
    × ((g.W.Sink.state l.sink).failed ≡ (g.W.Sink.state l.initial.sink).failed)

abbrev pub decreases-loop-rest : goal.decreases-loop-rest
decreases-loop-rest g l = length l.rest
