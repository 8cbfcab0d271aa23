-- Only expired rows were skipped.
use Rattle.std.proofs.Common.{◌≡◌, length}
use Rattle.cookie_words.specs.Moments.{moment_of}
use Rattle.cookie_laws.specs.Rows.{unexpired_rows}
use Rattle.cookie_rows.proofs.iter.IterUnexpiredIterator.next.Given as goal

abbrev pub invariant-loop-row : goal.invariant-loop-row
invariant-loop-row l = record {
  rows : unexpired_rows (moment_of l.self-inside.time) l.self-inside.rows ≡ unexpired_rows (moment_of l.initial.self-inside.time) l.initial.self-inside.rows;
}

abbrev pub decreases-loop-row : goal.decreases-loop-row
decreases-loop-row l = length l.self-inside.rows
