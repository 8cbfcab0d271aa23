-- Only gaps were skipped.
use Rattle.std.proofs.Common.{◌≡◌, length}
use Rattle.std.specs.Slice.Iter.{iter_rest}
use Rattle.ordered_map.specs.Layout.{entries_of}
use Rattle.ordered_map.proofs.iter.IterIterator.next.Given as goal

abbrev pub invariant-loop-position : goal.invariant-loop-position
invariant-loop-position g l = record {
  rest : entries_of l.self-inside.entries.now.entries (iter_rest l.self-inside.order) ≡ entries_of l.initial.self-inside.entries.now.entries (iter_rest l.initial.self-inside.order);
}

abbrev pub decreases-loop-position : goal.decreases-loop-position
decreases-loop-position g l = length (iter_rest l.self-inside.order)
