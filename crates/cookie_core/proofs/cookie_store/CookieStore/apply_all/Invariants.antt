-- The replies and the store are those of the calls so far, and there is room for the remaining replies.
use Rattle.std.proofs.Common.{◌≡◌, ◌++◌, ◌≤◌, length, map}
use Rattle.std.specs.Vec.{vec_capacity, vec_len}
use Rattle.std.specs.Vec.Iter.{into_iter_items}
use Rattle.cookie_core.specs.CallViews.{call_view, reply_view}
use Rattle.cookie_laws.specs.Runs.{replies, store_after}
use Rattle.cookie_core.proofs.cookie_store.CookieStore.apply_all.Given as goal

abbrev pub invariant-loop-call : goal.invariant-loop-call
invariant-loop-call l = record {
  can : (goal.iterator-loop-call).can_next l.call-iterator;
  ends : (goal.iterator-loop-call).is_finite l.call-iterator;
  reported : map reply_view l.reported.items ≡ replies (map call_view l.yielded) l.fn.self;
  store : l.self ≡ store_after (map call_view l.yielded) l.fn.self;
  all : l.yielded ++ into_iter_items l.call-iterator ≡ l.fn.calls.items;
  count : vec_len l.reported ≡ length l.yielded;
  room : length l.fn.calls.items ≤ vec_capacity l.reported;
}
