-- The first transactions are committed, and nothing is pending.
use Rattle.std.proofs.Common.{◌≡◌, ◌≤◌, take}
use Rattle.sqlite_trees.specs.View.{doubt, IsClean}
use Rattle.durable_table.specs.Changes.{after_each, in_table, lists}
use Rattle.durable_table.specs.Transactions.{IsReady}
use Rattle.durable_table.proofs.transaction.commit_each.Given as goal

abbrev pub invariant-loop-changes : goal.invariant-loop-changes
invariant-loop-changes g l =
    let S = g.S.Store in
    let first = S.view l.fn.store in
    let v = S.view l.store in
    record {
      done : l.done ≡ l.changes-index;
      ready : IsClean v → IsReady l.fn.table v;
      committed : IsClean v → v.committed ≡ in_table l.fn.table (after_each (take l.changes-index (lists l.fn.transactions))) first.committed;
      opened : IsClean v → v.is_open ≡ first.is_open;
      broken : IsClean v → v.is_broken ≡ first.is_broken;
      reals : IsClean v → v.reals ≡ first.reals;
      clean : doubt first.is_clean ≤ doubt v.is_clean;
      counts : S.faults l.fn.store ≤ S.faults l.store;
      shield : S.is_shielded l.fn.store → S.is_shielded l.store;
    }
