use Rattle.std.proofs.Common.{◌∙◌, ap, refl}
use Rattle.cookie_words.specs.Moments.{moment_of}
use Rattle.cookie_laws.specs.Contents.{unexpired}
use Rattle.cookie_durable.specs.Durable.{Durable, IsAtomic, IsInStep}
use Rattle.cookie_durable.proofs.DeletedRows.{expired_shrinks}
use Rattle.cookie_durable.proofs.StagedCalls.{left_by_removal}
use Rattle.cookie_durable.proofs.durable_store.DurableStore.remove_expired.Given.{Over}
use Rattle.cookie_durable.proofs.durable_store.DurableStore.remove_expired.Goals as goal
use Rattle.cookie_durable.proofs.durable_store.DurableStore.remove_expired.Goals.{After-commit_removals}

-- what the call leaves in the store and of the table
left : (g : Over) (c : After-commit_removals g)
    → IsInStep c.commit_removals.new.self (g.S.Store.view c.commit_removals.new.self.file)
    × IsAtomic g.S.Store.view g.S.Store.recovers c.args.self.now c.commit_removals.new.self (unexpired (moment_of c.args.now) c.args.self.now.store)
left g c =
    left_by_removal g.S.Store.view g.S.Store.recovers _ c.args.self.now _ c.commit_removals.new.self _ c.self.view_is c.requires refl
    (λ rows numbered. expired_shrinks _ _ (moment_of c.args.now) _ _ rows c.remove_expired-removed.ensures.store numbered)
    (c.remove_expired-removed.ensures.store ∙ ap (λ (d : Durable _). unexpired (moment_of c.args.now) d.store) c.self.view_is)
    c.commit_removals.ensures.in_step c.commit_removals.ensures.crash

pub returns-in_err-commit_removals-clause-in_step : goal.returns-in_err-commit_removals-clause-in_step
returns-in_err-commit_removals-clause-in_step g c = (left g (goal.at.returns-in_err-commit_removals-clause-in_step g c).After-commit_removals).0

pub returns-in_err-commit_removals-clause-crash : goal.returns-in_err-commit_removals-clause-crash
returns-in_err-commit_removals-clause-crash g c = (left g (goal.at.returns-in_err-commit_removals-clause-crash g c).After-commit_removals).1

pub returns-clause-in_step : goal.returns-clause-in_step
returns-clause-in_step g c = (left g (goal.at.returns-clause-in_step g c).After-commit_removals).0

pub returns-clause-crash : goal.returns-clause-crash
returns-clause-crash g c = (left g (goal.at.returns-clause-crash g c).After-commit_removals).1
