-- `bytes` holds what was read, each read returned at least one byte, and none has failed.
use Rattle.std.proofs.Common.{◌≡◌, ◌+◌, ◌≤◌, length}
use Rattle.std.specs.Io.KnownBytes.{Consumes}
use Rattle.cookie_device.proofs.reading.read_all.Given as goal

abbrev pub invariant-loop-bytes : goal.invariant-loop-bytes
invariant-loop-bytes g l = record {
  came : Consumes (g.R.Source.state l.initial.source).remaining (g.R.Source.state l.source).remaining l.bytes.items;
  reads : (g.R.Source.state l.initial.source).reads_left ≤ (g.R.Source.state l.source).reads_left + length l.bytes.items;
  count : (g.R.Source.state l.source).failed ≡ (g.R.Source.state l.initial.source).failed;
}

abbrev pub decreases-loop-bytes : goal.decreases-loop-bytes
decreases-loop-bytes g l = (g.R.Source.state l.source).reads_left
