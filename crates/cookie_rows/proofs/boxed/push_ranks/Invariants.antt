-- The ranks of the rows so far were added.
use Rattle.std.proofs.Common.{◌≡◌, ◌++◌, map}
use Rattle.cookie_words.specs.Moments.{moment_of}
use Rattle.cookie_rows.specs.Eviction.{rank_of}
use Rattle.cookie_rows.proofs.boxed.push_ranks.Given as goal

abbrev pub invariant-loop-row : goal.invariant-loop-row
invariant-loop-row l = record {
  pushed : l.ranks.items ++ map (rank_of l.order (moment_of l.now)) l.row-iterator ≡ l.initial.ranks.items ++ map (rank_of l.order (moment_of l.now)) l.initial.row-iterator;
}
