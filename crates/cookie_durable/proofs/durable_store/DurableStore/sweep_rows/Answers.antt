use Rattle.std.proofs.Common.{subst, sym}
use Rattle.cookie_durable.specs.Durable.{Durable}
use Rattle.cookie_durable.specs.Numbering.{IsNumbered}
use Rattle.cookie_durable.specs.Sweeping.{Shrinks}
use Rattle.cookie_durable.proofs.DeletedRows.{swept-numbered}
use Rattle.cookie_durable.proofs.durable_store.DurableStore.sweep_rows.Goals as goal

pub returns-in-Ok-clause-numbered : goal.returns-in-Ok-clause-numbered
returns-in-Ok-clause-numbered g c = λ before rows shrinks numbered.
    swept-numbered before c.self.inside.store c.self.inside.ids.entries _ c.self.inside.next rows c.in-Ok.deletions.items c.in-Ok.ensures.ids
    c.in-Ok.ensures.changes c.in-Ok.ensures.distinct (subst (λ (d : Durable _). Shrinks before d.store) (sym c.self.view_is) shrinks)
    (subst (λ (d : Durable _). IsNumbered before d.ids d.next rows) (sym c.self.view_is) numbered)
