use Rattle.std.proofs.Common.{arith, rules, subst, sym}
use Rattle.sqlite_trees.specs.View.{IsClean}
use Rattle.cookie_laws.specs.Contents.{Contents}
use Rattle.cookie_durable.specs.SavedTables.{Holds}
use Rattle.cookie_durable.proofs.SavedFiles.{opened-saved, unwritten-ready}
use Rattle.cookie_durable.proofs.WrittenCookies.{numbered-holds}
use Rattle.cookie_durable.proofs.durable_store.DurableStore.open.Goals as goal

pub returns-in-Ok-clause-in_step : goal.returns-in-Ok-clause-in_step
returns-in-Ok-clause-in_step g c =
    let view = g.S.Store.view in
    record {
      ready = λ clean.
          let early : IsClean (view c.args.file) = omega (arith, clean, c.load.ensures.quiet.clean) in
          unwritten-ready c.args.table (view c.args.file) (view c.load.new.file) (c.in-Ok.ensures.unwritten clean) (c.requires early);
      saved = λ works clean. opened-saved _ _ _ _ _ c.args.table (view c.args.file) (view c.load.new.file) (c.in-Ok.ensures.unwritten clean)
          (g.met.S.Store.broken_if_shut c.load.new.file) c.from_rows.ensures (search rules) (c.in-Ok.ensures.loaded clean);
    }

pub returns-in-Ok-clause-found : goal.returns-in-Ok-clause-found
returns-in-Ok-clause-found g c = λ clean.
    subst (λ (s : Contents). Holds s ((g.S.Store.view c.args.file).committed c.args.table)) (sym c.from_rows.ensures)
    (numbered-holds _ _ _ _ (c.in-Ok.ensures.loaded clean))
