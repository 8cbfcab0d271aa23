-- The replies and the store are those of the calls so far, which are committed, and there is room for the remaining replies.
use Rattle.std.proofs.Common.{◌≡◌, ◌++◌, ◌≤◌, [], IsTrue, length, map}
use Rattle.std.specs.Vec.{vec_capacity, vec_len}
use Rattle.std.specs.Vec.Iter.{into_iter_items}
use Rattle.sqlite_trees.specs.View.{doubt}
use Rattle.cookie_core.specs.CallViews.{call_view, reply_view}
use Rattle.cookie_laws.specs.Runs.{replies, store_after}
use Rattle.cookie_durable.specs.Durable.{IsInStep}
use Rattle.cookie_durable.proofs.durable_store.DurableStore.apply_each.Given as goal

abbrev pub invariant-loop-call : goal.invariant-loop-call
invariant-loop-call g l =
    let view = g.S.Store.view in
    record {
      can : (goal.iterator-loop-call g).can_next l.call-iterator;
      ends : (goal.iterator-loop-call g).is_finite l.call-iterator;
      reported : map reply_view l.replies.items ≡ replies (map call_view l.yielded) l.fn.self.store;
      store : l.self.store ≡ store_after (map call_view l.yielded) l.fn.self.store;
      in_step : IsInStep l.self (view l.self.file);
      works : l.self.is_failed ≡ l.fn.self.is_failed;
      failed : IsTrue l.fn.self.is_failed → (l.self ≡ l.fn.self) × (l.replies.items ≡ []);
      table : l.self.table ≡ l.fn.self.table;
      clean : doubt (view l.fn.self.file).is_clean ≤ doubt (view l.self.file).is_clean;
      all : l.yielded ++ into_iter_items l.call-iterator ≡ l.fn.calls.items;
      count : vec_len l.replies ≡ length l.yielded;
      room : length l.fn.calls.items ≤ vec_capacity l.replies;
    }
