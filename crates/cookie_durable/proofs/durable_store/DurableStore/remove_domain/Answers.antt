use Rattle.std.proofs.Common.{◌∙◌, ap, refl}
use Rattle.cookie_rows.specs.Retained.{has_other_domain}
use Rattle.cookie_laws.specs.Contents.{retained}
use Rattle.cookie_durable.specs.Durable.{Durable, IsAtomic, IsInStep}
use Rattle.cookie_durable.proofs.DeletedRows.{retained_shrinks}
use Rattle.cookie_durable.proofs.StagedCalls.{left_by_removal}
use Rattle.cookie_durable.proofs.durable_store.DurableStore.remove_domain.Given.{Over}
use Rattle.cookie_durable.proofs.durable_store.DurableStore.remove_domain.Goals as goal
use Rattle.cookie_durable.proofs.durable_store.DurableStore.remove_domain.Goals.{After-commit_removals}

-- what the call leaves in the store and of the table
left : (g : Over) (c : After-commit_removals g)
    → IsInStep c.commit_removals.new.self (g.S.Store.view c.commit_removals.new.self.file)
    × IsAtomic g.S.Store.view g.S.Store.recovers c.args.self.now c.commit_removals.new.self (retained (has_other_domain c.args.domain.now) c.args.self.now.store)
left g c =
    left_by_removal g.S.Store.view g.S.Store.recovers _ c.args.self.now _ c.commit_removals.new.self _ c.self.view_is c.requires refl
    (λ rows numbered. retained_shrinks _ _ (has_other_domain c.args.domain.now) _ _ rows c.remove_domain-removed.ensures.store numbered)
    (c.remove_domain-removed.ensures.store ∙ ap (λ (d : Durable _). retained (has_other_domain c.args.domain.now) d.store) c.self.view_is)
    c.commit_removals.ensures.in_step c.commit_removals.ensures.crash

pub returns-in_err-commit_removals-clause-in_step : goal.returns-in_err-commit_removals-clause-in_step
returns-in_err-commit_removals-clause-in_step g c = (left g (goal.at.returns-in_err-commit_removals-clause-in_step g c).After-commit_removals).0

pub returns-in_err-commit_removals-clause-crash : goal.returns-in_err-commit_removals-clause-crash
returns-in_err-commit_removals-clause-crash g c = (left g (goal.at.returns-in_err-commit_removals-clause-crash g c).After-commit_removals).1

pub returns-clause-in_step : goal.returns-clause-in_step
returns-clause-in_step g c = (left g (goal.at.returns-clause-in_step g c).After-commit_removals).0

pub returns-clause-crash : goal.returns-clause-crash
returns-clause-crash g c = (left g (goal.at.returns-clause-crash g c).After-commit_removals).1
