use Rattle.std.proofs.Common.{◌≡◌, vec_capacity, vec_len}
use Rattle.indexmap.specs.IndexMap.{hasher_of, spare}
use Rattle.ordered_map.proofs.ClosedViews.{ClosingEntries}
use Rattle.ordered_map.proofs.gaps.close_gaps.Given as goal

abbrev pub invariant-loop-place : goal.invariant-loop-place
invariant-loop-place g l = record {
  closing : ClosingEntries l.fn.entries.entries l.fn.order.items l.entries.entries l.order.items l.next_place l.place;
  end : l.place-end ≡ vec_len l.fn.order;
  len : vec_len l.order ≡ vec_len l.fn.order;
  capacity : vec_capacity l.order ≡ vec_capacity l.fn.order;
  spare : spare l.entries ≡ spare l.fn.entries;
  hasher : hasher_of l.entries ≡ hasher_of l.fn.entries;
}
