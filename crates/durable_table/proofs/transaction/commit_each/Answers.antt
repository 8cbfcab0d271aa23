use Rattle.std.proofs.Common.{◌≡◌, ◌+◌, length, sym, ap, subst, ◌∙◌, inl, inr, arith}
use Rattle.std.specs.List.{Any}
use Rattle.std.proofs.lemmas.List.{length-map}
use Rattle.sqlite_trees.specs.View.{IsClean}
use Rattle.durable_table.specs.Changes.{after, in_table, lists, IsUnstorable}
use Rattle.durable_table.proofs.Appended.{in_table-each_more}
use Rattle.durable_table.proofs.Causes.{has_cause_from}
use Rattle.durable_table.proofs.TwoCalls.{more_faults_from}
use Rattle.durable_table.proofs.transaction.commit_each.Goals as goal

pub returns-in-Err-clause-crash : goal.returns-in-Err-clause-crash
returns-in-Err-clause-crash g c clean opened db may =
    let view = g.S.Store.view in
    let before = c.loop-changes.invariant in
    let early : IsClean (view c.loop-changes.store) = omega (arith, clean, c.commit.ensures.clean) in
    let count : length (lists c.args.transactions.now) ≡ length c.args.transactions.now = length-map c.args.transactions.now _ in
    elim (c.commit.ensures.crash clean db may) [
      | inl unchanged ↦ record {
        count = c.loop-changes.changes-index;
        all_done = omega (arith, before.done);
        one_more = omega (arith, before.done);
        within = omega (arith, count, c.loop-changes-test.true);
        is = g.met.S.Store.settled c.loop-changes.store db (before.opened early ∙ opened) unchanged ∙ before.committed early;
      }
      | inr changed ↦ record {
        count = c.loop-changes.changes-index + 1;
        all_done = omega (arith, before.done);
        one_more = omega (arith, before.done);
        within = omega (arith, count, c.loop-changes-test.true);
        is = in_table-each_more c.args.table c.loop-changes.changes-index c.args.transactions.now c.changes-item.result (view c.args.store.now).committed (view c.loop-changes.store).committed db
            c.loop-changes-test.true c.changes-item.is (before.committed early)
            (changed ∙ ap (λ changes. in_table c.args.table (after changes) (view c.loop-changes.store).committed) c.as_slice.ensures.value);
      }
    ]

pub returns-in-Err-clause-cause : goal.returns-in-Err-clause-cause
returns-in-Err-clause-cause g c clean =
    let view = g.S.Store.view in
    let before = c.loop-changes.invariant in
    let early : IsClean (view c.loop-changes.store) = omega (arith, clean, c.commit.ensures.clean) in
    has_cause_from c.in-Err.error (view c.args.store.now) (view c.loop-changes.store) _ _ _ _
    (λ broken. sym (before.broken early) ∙ broken)
    (more_faults_from _ _ _ before.counts)
    (λ unstorable. (
      c.loop-changes.changes-index,
      c.changes-item.result,
      c.loop-changes-test.true,
      sym c.changes-item.is,
      subst (λ reals. Any (IsUnstorable (reals c.args.table)) c.changes-item.result.items) (before.reals early)
          (subst (Any (IsUnstorable ((view c.loop-changes.store).reals c.args.table))) c.as_slice.ensures.value unstorable),
    ))
    (c.in-Err.ensures.cause clean)

pub loop-changes-preserved : goal.loop-changes-preserved
loop-changes-preserved g c =
    let view = g.S.Store.view in
    let before = c.loop-changes.invariant in
    let made = c.in_default.ensures in
    record {
      done = omega (arith, before.done);
      ready = made.ready;
      committed = λ clean.
          let early : IsClean (view c.loop-changes.store) = omega (arith, clean, made.clean) in
          in_table-each_more c.args.table c.loop-changes.changes-index c.args.transactions.now c.changes-item.result (view c.args.store.now).committed (view c.loop-changes.store).committed (view c.commit.new.store).committed
          c.loop-changes-test.true c.changes-item.is (before.committed early)
          (ap (λ v. v.committed) (made.committed clean).is ∙ ap (λ changes. in_table c.args.table (after changes) (view c.loop-changes.store).committed) c.as_slice.ensures.value);
      opened = λ clean. ap (λ v. v.is_open) (made.committed clean).is ∙ before.opened (omega (arith, clean, made.clean));
      broken = λ clean. ap (λ v. v.is_broken) (made.committed clean).is ∙ before.broken (omega (arith, clean, made.clean));
      reals = λ clean. ap (λ v. v.reals) (made.committed clean).is ∙ before.reals (omega (arith, clean, made.clean));
      clean = omega (arith, before.clean, made.clean);
      counts = omega (arith, before.counts, made.counts);
      shield = λ s. made.shield (before.shield s);
    }
