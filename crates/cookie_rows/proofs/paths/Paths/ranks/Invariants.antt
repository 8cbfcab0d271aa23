-- The ranks of the groups so far were added.
use Rattle.std.proofs.Common.{◌≡◌, ◌++◌, map}
use Rattle.std.specs.List.{flat_map}
use Rattle.ordered_map.specs.Entries.{in_order}
use Rattle.cookie_words.specs.Moments.{moment_of}
use Rattle.cookie_rows.specs.Eviction.{rank_of}
use Rattle.cookie_rows.proofs.paths.Paths.ranks.Given as goal

abbrev pub invariant-loop-names : goal.invariant-loop-names
invariant-loop-names l = record {
  pushed : l.ranks.items ++ flat_map (λ items. map (rank_of l.order (moment_of l.now)) (in_order items)) l.names-iterator
      ≡ flat_map (λ items. map (rank_of l.order (moment_of l.now)) (in_order items)) l.initial.names-iterator;
}
