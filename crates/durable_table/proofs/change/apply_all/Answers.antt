use Rattle.std.proofs.Common.{arith}
use Rattle.durable_table.proofs.Appended.{applies_one_more}
use Rattle.durable_table.proofs.TwoCalls.{keeps_schema_twice, quiet_twice}
use Rattle.durable_table.proofs.change.apply_all.Goals as goal

pub loop-change-preserved : goal.loop-change-preserved
loop-change-preserved g c =
    let view = g.S.Store.view in
    let before = c.loop-change.invariant in
    let made = c.apply.ensures in
    record {
      quiet = quiet_twice _ _ _ _ _ _ _ before.quiet made.quiet;
      schema = keeps_schema_twice _ _ _ before.schema made.schema;
      applied = λ clean. applies_one_more c.args.table c.loop-change.change-index c.args.changes.now c.change-item.result (view c.args.store.now) (view c.loop-change.store) (view c.apply.new.store)
          c.loop-change-test.true c.change-item.is (before.applied (omega (arith, clean, made.quiet.clean))) (c.in_ok-apply.ensures.ok clean);
    }
