use Rattle.std.proofs.Common.{false, subst, IfErr, IfOk}
use Rattle.sqlite_trees.specs.View.{IsQuiet}
use Rattle.cookie_durable.specs.Durable.{Durable}
use Rattle.cookie_durable.specs.Sessions.{KeepsRows}
use Rattle.cookie_durable.proofs.KeptRows.{kept_on}
use Rattle.cookie_durable.proofs.OpenedFiles.{err_by, ok_by}
use Rattle.cookie_durable.proofs.durable_store.DurableStore.without_session.Goals as goal

pub returns-in-Ok-true-clause-kept : goal.returns-in-Ok-true-clause-kept
returns-in-Ok-true-clause-kept g c =
    let S = g.S.Store in
    let e = c.open.ensures in
    subst (λ (d : Durable _). IfOk c.open.result (λ o. KeepsRows S.view S.recovers S.is_shielded d.table false d.file o.file)) c.opened.view_is
    (ok_by c.open.result _ _ _ _ _ e.quiet e.quiet e.quiet e.quiet (λ o quiet _ _ _.
    kept_on S.view S.faults S.recovers S.is_shielded _ false _ _ o.file c.remove_sessions.ensures.kept
    (subst (λ f. IsQuiet S.view S.faults S.recovers S.is_shielded f o.file) c.into_file.ensures quiet)))

pub returns-in-Ok-true-clause-unharmed : goal.returns-in-Ok-true-clause-unharmed
returns-in-Ok-true-clause-unharmed g c =
    let S = g.S.Store in
    let e = c.open.ensures in
    subst (λ (d : Durable _). IfErr c.open.result (λ o. KeepsRows S.view S.recovers S.is_shielded d.table false d.file o.1)) c.opened.view_is
    (err_by c.open.result _ _ _ e.unharmed e.unharmed (λ o quiet _.
    kept_on S.view S.faults S.recovers S.is_shielded _ false _ _ o.1 c.remove_sessions.ensures.kept
    (subst (λ f. IsQuiet S.view S.faults S.recovers S.is_shielded f o.1) c.into_file.ensures quiet)))
