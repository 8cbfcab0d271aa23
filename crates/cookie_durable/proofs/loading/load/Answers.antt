use Rattle.std.proofs.Common.{◌≡◌, true, None, ap, arith, subst, rules}
use Rattle.sqlite_trees.specs.View.{Advances, IsClean}
use Rattle.cookie_laws.specs.Contents.{contents_of}
use Rattle.cookie_laws.specs.Rows.{RowsInOrder}
use Rattle.durable_table.proofs.TwoCalls.{quiet_twice}
use Rattle.cookie_durable.proofs.ReadRows.{begins, one_more, table_rows}
use Rattle.cookie_durable.proofs.loading.load.Goals as goal

pub rows-init : goal.rows-init
rows-init g c = record {
  quiet = c.in_ok-seek.ensures.quiet;
  live = c.in_ok-seek.ensures.live;
  loaded = λ clean. begins _ c.args.table _ _ _ _ _ c.new.result (ap (λ (r : RowsInOrder). contents_of r None None) c.new-2.ensures) c.with_hasher.ensures.empty
      c.new.ensures (c.in_ok-seek.ensures.sound clean) (c.in_ok-seek.ensures.ok clean);
}

pub rows-preserved : goal.rows-preserved
rows-preserved g c =
    let view = g.S.Store.view in
    let before = c.rows.invariant in
    let found : c.in_ok-next.field-0 ≡ true = search rules in
    record {
      quiet = quiet_twice _ _ _ _ _ _ _ before.quiet c.in_ok-next.ensures.quiet;
      live = c.in_ok-next.ensures.stay 0 before.live;
      loaded = λ clean.
          let early : IsClean (view c.rows.file) = omega (arith, clean, c.in_ok-next.ensures.quiet.clean) in
          let first : IsClean (view c.args.file.now) = omega (arith, early, before.quiet.clean) in
          let read = before.loaded early in
          one_more _ _ _ c.args.table (view c.args.file.now) (view c.rows.file) (view c.next.new.self) c.next.new.row read _ _ _
          (table_rows _ _ (c.requires first).shape (g.met.S.Store.ordered c.args.file.now read.unwritten.0 c.args.table))
          (subst (Advances (view c.rows.file) (view c.next.new.self) 0 c.next.new.row) found (c.in_ok-next.ensures.ok clean))
          c.in_ok-add.ensures;
    }
