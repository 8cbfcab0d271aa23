use Rattle.cookie_durable.proofs.StagedCalls.{cleared_staged}
use Rattle.cookie_durable.proofs.durable_store.DurableStore.stage_clear.Goals as goal

pub returns-clause-staged : goal.returns-clause-staged
returns-clause-staged g c =
    cleared_staged g.S.Store.view _ _ c.clear.new.self _ _ c.in_ok-deletions.deletions.items _ c.self.view_is c.requires c.if-self.false c.clear.ensures
    c.clear-2.ensures.empty c.in_ok-deletions.ensures.changes c.in_ok-deletions.ensures.keyed c.in_ok-append.ensures.items
