use Rattle.std.proofs.Common.{◌∙◌, ap, subst, sym}
use Rattle.std.proofs.lemmas.Result.{err_from_is_err_and}
use Rattle.cookie_laws.specs.Contents.{Contents}
use Rattle.cookie_laws.specs.Rows.{RowsInOrder}
use Rattle.cookie_serde.specs.Migration.{HaveSavedForms}
use Rattle.cookie_serde.proofs.BuiltAll.{built_all}
use Rattle.cookie_serde.proofs.Migrated.{migrates_by}
use Rattle.cookie_serde.proofs.NoneEarly.{none_built}
use Rattle.cookie_serde.proofs.migration.migrate_lines.Goals as goal

pub returns-in_err-rows-clause-failed : goal.returns-in_err-rows-clause-failed
returns-in_err-rows-clause-failed g c =
    let p = err_from_is_err_and c.from_residual.result c.from_residual.ensures.1 in
    rw (p.1, p.2) (migrates_by _ _ _ c.in_err-rows.ensures.failed)

pub returns-clause-saved : goal.returns-clause-saved
returns-clause-saved g c =
    let (texts, cookies, created, built, known) = c.in_ok-rows.ensures.built in
    let rows = ap (λ (store : Contents). store.rows) c.from_rows.ensures ∙ ap (λ (kept : RowsInOrder). kept.rows) (built ∙ built_all cookies) in
    subst HaveSavedForms (sym rows) (none_built texts cookies created)
