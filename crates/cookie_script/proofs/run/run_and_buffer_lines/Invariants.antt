-- No call has failed, each read returned a byte, and of the output, that of the consumed lines was buffered or
-- written.
use Rattle.std.proofs.Common.{◌≡◌, ◌+◌, ◌*◌, ◌≤◌, ℕ, List, Some, IfSome, length}
use Rattle.cookie_script.proofs.Progress.{Progress}
use Rattle.cookie_script.proofs.run.run_and_buffer_lines.Given as goal

abbrev pub invariant-lines : goal.invariant-lines
invariant-lines g l = record {
  reads : (g.R.Source.state l.source).failed ≡ (g.R.Source.state l.initial.source).failed;
  writes : (g.W.Sink.state l.sink).failed ≡ (g.W.Sink.state l.initial.sink).failed;
  progress : IfSome (g.R.Source.state l.initial.source).remaining (λ input.
      Progress l.initial.jar.store input (g.W.Sink.state l.initial.sink).contents l.initial.out l.input (g.R.Source.state l.source).remaining l.jar (g.W.Sink.state l.sink).contents l.out);
  turns : IfSome (g.R.Source.state l.initial.source).remaining (λ input. (left : List ℕ) × ((g.R.Source.state l.source).remaining ≡ Some left)
      × ((g.R.Source.state l.initial.source).reads_left + length left ≤ (g.R.Source.state l.source).reads_left + length input));
}

-- a read returns at most 4,096 bytes
abbrev pub decreases-lines : goal.decreases-lines
decreases-lines g l = 4097 * (g.R.Source.state l.source).reads_left + length l.input
