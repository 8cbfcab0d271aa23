use Rattle.cookie_durable.proofs.StagedCalls.{changes_crash}
use Rattle.cookie_durable.proofs.durable_store.DurableStore.commit_changes.Goals as goal

pub returns-in-Ok-clause-crash : goal.returns-in-Ok-clause-crash
returns-in-Ok-clause-crash g c =
    changes_crash g.S.Store.view g.S.Store.recovers _ _ c.args.changes.now c.commit.new.store c.self.view_is c.commit.ensures.crash

pub returns-in-Err-clause-crash : goal.returns-in-Err-clause-crash
returns-in-Err-clause-crash g c =
    changes_crash g.S.Store.view g.S.Store.recovers _ _ c.args.changes.now c.commit.new.store c.self.view_is c.commit.ensures.crash
