-- The first changes are made, and nothing is committed.
use Rattle.std.proofs.Common.{take}
use Rattle.sqlite_trees.specs.View.{IsClean, IsQuiet, KeepsSchema}
use Rattle.durable_table.specs.Transactions.{Applies}
use Rattle.durable_table.proofs.change.apply_all.Given as goal

abbrev pub invariant-loop-change : goal.invariant-loop-change
invariant-loop-change g l =
    let S = g.S.Store in
    record {
      quiet : IsQuiet S.view S.faults S.recovers S.is_shielded l.fn.store l.store;
      schema : KeepsSchema (S.view l.fn.store) (S.view l.store);
      applied : IsClean (S.view l.store) → Applies l.fn.table (take l.change-index l.fn.changes) (S.view l.fn.store) (S.view l.store);
    }
