use Rattle.cookie_laws.specs.Rows.{key_at}
use Rattle.cookie_durable.specs.Numbering.{Touches, key_in}
use Rattle.cookie_durable.proofs.CallSteps.{remove_touches}
use Rattle.cookie_durable.proofs.StagedCalls.{staged_after}
use Rattle.cookie_durable.proofs.durable_store.DurableStore.stage_removal.Goals as goal

pub returns-clause-staged : goal.returns-clause-staged
returns-clause-staged g c =
    let e = c.in_ok-stage_key.ensures in
    staged_after g.S.Store.view _ _ (λ before. Touches (key_in c.in_ok-names.names) before c.remove-removed.new.self) _ _ c.stage_key.new.self c.self.view_is c.requires
    c.if-self.false
    (λ rows numbered. remove_touches _ _ (key_at c.args.domain.now c.args.path.now c.args.name.now) c.in_ok-names.names _ _ rows
    c.in_ok-names.ensures c.remove-removed.ensures.store numbered)
    e.numbered e.keyed e.file e.table
