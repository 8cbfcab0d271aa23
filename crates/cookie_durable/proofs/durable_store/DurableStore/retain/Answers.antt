use Rattle.std.proofs.Common.{◌∙◌, ap, refl, Bool}
use Rattle.std.specs.Fn.{FnReturnsAt}
use Rattle.cookie_parts.specs.Cookie.{Row}
use Rattle.cookie_laws.specs.Contents.{ReturnsTest, retained}
use Rattle.cookie_durable.specs.Durable.{Durable, IsAtomic, IsInStep}
use Rattle.cookie_durable.proofs.DeletedRows.{retained_shrinks}
use Rattle.cookie_durable.proofs.StagedCalls.{left_by_removal}
use Rattle.cookie_durable.proofs.durable_store.DurableStore.retain.Given.{Over}
use Rattle.cookie_durable.proofs.durable_store.DurableStore.retain.Goals as goal
use Rattle.cookie_durable.proofs.durable_store.DurableStore.retain.Goals.{After-commit_removals}

-- what the call leaves in the store and of the table, if the closure returns what the test does
left : (g : Over) (c : After-commit_removals g) (test : Row → Bool) → ReturnsTest (FnReturnsAt g.F.Fn c.args.keep) test
    → IsInStep c.commit_removals.new.self (g.S.Store.view c.commit_removals.new.self.file)
    × IsAtomic g.S.Store.view g.S.Store.recovers c.args.self.now c.commit_removals.new.self (retained test c.args.self.now.store)
left g c test is =
    left_by_removal g.S.Store.view g.S.Store.recovers _ c.args.self.now _ c.commit_removals.new.self _ c.self.view_is c.requires.in_step refl
    (λ rows numbered. retained_shrinks _ _ test _ _ rows (c.retain.ensures test is) numbered)
    (c.retain.ensures test is ∙ ap (λ (d : Durable _). retained test d.store) c.self.view_is)
    c.commit_removals.ensures.in_step c.commit_removals.ensures.crash

pub returns-clause-in_step : goal.returns-clause-in_step
returns-clause-in_step g c test is = (left g (goal.at.returns-clause-in_step g c).After-commit_removals test is).0

pub returns-clause-crash : goal.returns-clause-crash
returns-clause-crash g c test is = (left g (goal.at.returns-clause-crash g c).After-commit_removals test is).1
