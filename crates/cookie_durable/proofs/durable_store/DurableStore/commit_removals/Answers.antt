use Rattle.std.proofs.Common.{◌∙◌, ap, subst, sym}
use Rattle.cookie_durable.specs.Durable.{Durable, IsStaged}
use Rattle.cookie_durable.specs.Sweeping.{HasRemoved}
use Rattle.cookie_durable.proofs.StagedCalls.{committed-atomic, committed-in_step, removed_staged}
use Rattle.cookie_durable.proofs.durable_store.DurableStore.commit_removals.Given.{Over}
use Rattle.cookie_durable.proofs.durable_store.DurableStore.commit_removals.Goals as goal
use Rattle.cookie_durable.proofs.durable_store.DurableStore.commit_removals.Goals.{After-commit_changes}

-- the changes delete the rows of the cookies that were removed
staged : (g : Over) (c : After-commit_changes g) (before : Durable _) → HasRemoved before c.args.self.now (g.S.Store.view c.args.self.now.file)
    → IsStaged c.sweep_rows.new.self c.as_slice.result.now (g.S.Store.view c.sweep_rows.new.self.file)
staged g c before removed =
    let e = c.in_ok-deletions.ensures in
    subst (λ changes. IsStaged c.sweep_rows.new.self changes (g.S.Store.view c.sweep_rows.new.self.file)) (sym c.as_slice.ensures.value)
    (removed_staged g.S.Store.view before c.args.self.now _ c.sweep_rows.new.self removed c.requires.works e.numbered e.keyed e.file e.table)

pub returns-clause-in_step : goal.returns-clause-in_step
returns-clause-in_step g c before removed =
    let w = (goal.at.returns-clause-in_step g c).After-commit_changes in
    committed-in_step g.S.Store.view c.sweep_rows.new.self c.commit_changes.new.self c.as_slice.result.now c.in_ok-deletions.ensures.ok
    (staged g w before removed) c.commit_changes.ensures.clean c.commit_changes.result c.commit_changes.ensures.ready c.commit_changes.ensures.err
    c.commit_changes.ensures.saved

pub returns-clause-crash : goal.returns-clause-crash
returns-clause-crash g c before removed =
    let w = (goal.at.returns-clause-crash g c).After-commit_changes in
    let e = c.in_ok-deletions.ensures in
    committed-atomic g.S.Store.view c.sweep_rows.new.self c.commit_changes.new.self c.as_slice.result.now e.ok (staged g w before removed)
    c.commit_changes.ensures.clean g.S.Store.recovers before c.args.self.now.store e.store
    (e.file ∙ ap (λ (d : Durable _). d.file) removed.rest) (e.table ∙ ap (λ (d : Durable _). d.table) removed.rest) c.commit_changes.ensures.crash
