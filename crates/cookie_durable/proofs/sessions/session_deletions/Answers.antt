use Rattle.std.proofs.Common.{◌≡◌, true, arith, rules, subst}
use Rattle.sqlite_trees.specs.View.{Advances, IsClean}
use Rattle.durable_table.proofs.TwoCalls.{quiet_twice}
use Rattle.cookie_durable.proofs.SessionRows.{begins, lists_more}
use Rattle.cookie_durable.proofs.sessions.session_deletions.Goals as goal

pub rows-init : goal.rows-init
rows-init g c = record {
  quiet = c.in_ok-seek.ensures.quiet;
  live = c.in_ok-seek.ensures.live;
  keyed = search rules;
  listed = λ clean. begins _ c.args.table _ _ _ c.new.result c.new-changes.ensures.items c.new.ensures
      (c.in_ok-seek.ensures.sound clean) (c.in_ok-seek.ensures.ok clean);
}

pub rows-preserved : goal.rows-preserved
rows-preserved g c =
    let view = g.S.Store.view in
    let before = c.rows.invariant in
    let found : c.in_ok-next.field-0 ≡ true = search rules in
    record {
      quiet = quiet_twice _ _ _ _ _ _ _ before.quiet c.in_ok-next.ensures.quiet;
      live = c.in_ok-next.ensures.stay 0 before.live;
      keyed = c.in_ok-push_deletion.ensures.keyed before.keyed;
      listed = λ clean.
          let early : IsClean (view c.rows.file) = omega (arith, clean, c.in_ok-next.ensures.quiet.clean) in
          lists_more _ c.args.table (view c.args.file.now) (view c.rows.file) (view c.next.new.self) c.next.new.row (before.listed early) _
          (subst (Advances (view c.rows.file) (view c.next.new.self) 0 c.next.new.row) found (c.in_ok-next.ensures.ok clean))
          c.in_ok-push_deletion.ensures.changes;
    }
