use Rattle.std.proofs.Common.{Some, subst, sym}
use Rattle.cookie_laws.specs.Contents.{Contents}
use Rattle.cookie_durable.specs.Durable.{Durable, IsInStep, IsSaved}
use Rattle.cookie_durable.proofs.SavedFiles.{relisted}
use Rattle.cookie_durable.proofs.durable_store.DurableStore.set_suffix_list.Goals as goal

pub returns-clause-in_step : goal.returns-clause-in_step
returns-clause-in_step g c =
    let view = g.S.Store.view in
    let before = subst (λ (d : Durable g.row.S.Denot). IsInStep d (view d.file)) (sym c.self.view_is) c.requires in
    record {
      ready = before.ready;
      saved = λ works clean.
          subst (λ (s : Contents). IsSaved s c.self.inside.ids.entries c.self.inside.next c.self.inside.table (view c.self.inside.file))
          (sym c.set_suffix_list.ensures)
          (relisted c.self.inside.store (Some c.args.suffixes) c.self.inside.ids.entries c.self.inside.next c.self.inside.table (view c.self.inside.file)
          (before.saved works clean));
    }
