-- `keep` was called at the entries of the first places, and the map is stored.
use Rattle.std.proofs.Common.{◌≡◌, ◌≤◌, vec_capacity, vec_len}
use Rattle.std.specs.Map.Calls.{CalledAtPair}
use Rattle.indexmap.specs.IndexMap.{hasher_of, index_map_len, spare}
use Rattle.ordered_map.specs.Layout.{entries_of, IsStored}
use Rattle.ordered_map.proofs.RetainedViews.{RetainsSoFar}
use Rattle.ordered_map.proofs.map.OrderedMap.retain.Given as goal

abbrev pub invariant-loop-place : goal.invariant-loop-place
invariant-loop-place g l = record {
  stored : IsStored l.self-inside.entries.entries l.self-inside.order.items;
  so_far : RetainsSoFar (CalledAtPair g.F.FnMut) l.initial.keep (entries_of l.initial.self-inside.entries.entries l.initial.self-inside.order.items) l.self-inside.entries.entries l.self-inside.order.items l.place l.keep;
  end : l.place-end ≡ vec_len l.initial.self-inside.order;
  places : vec_len l.self-inside.order ≡ vec_len l.initial.self-inside.order;
  capacity : vec_capacity l.self-inside.order ≡ vec_capacity l.initial.self-inside.order;
  len : index_map_len l.self-inside.entries ≤ index_map_len l.initial.self-inside.entries;
  spare : spare l.initial.self-inside.entries ≤ spare l.self-inside.entries;
  hasher : hasher_of l.self-inside.entries ≡ hasher_of l.initial.self-inside.entries;
}
