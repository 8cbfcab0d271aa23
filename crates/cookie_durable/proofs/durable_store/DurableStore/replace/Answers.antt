use Rattle.std.proofs.Common.{◌≡◌, ◌≤◌, ◌⊎◌, ◌∙◌, IsTrue, OnErr, OnOk, ap, ap₂, subst, sym}
use Rattle.sqlite_trees.specs.Tree.{Trees}
use Rattle.sqlite_trees.specs.View.{doubt, IsClean}
use Rattle.durable_table.specs.Transactions.{IsReady}
use Rattle.cookie_durable.specs.Durable.{Durable}
use Rattle.cookie_durable.specs.Replacing.{new_rows}
use Rattle.cookie_durable.proofs.durable_store.DurableStore.replace.Goals as goal

pub returns-clause-ready : goal.returns-clause-ready
returns-clause-ready g c =
    let view = g.S.Store.view in
    subst (λ file. IsClean (view file) → IsReady c.args.self.table (view file)) (sym c.into_file.ensures) c.write_new_rows-replaced.ensures.ready

pub returns-clause-replaced : goal.returns-clause-replaced
returns-clause-replaced g c =
    let view = g.S.Store.view in
    subst (λ file. OnOk c.write_new_rows-replaced.result (IsClean (view file) → (view file).committed c.args.self.table ≡ new_rows c.args.cookies.now.rows))
    (sym c.into_file.ensures) c.write_new_rows-replaced.ensures.replaced

pub returns-clause-kept : goal.returns-clause-kept
returns-clause-kept g c =
    let view = g.S.Store.view in
    subst (λ file. OnErr c.write_new_rows-replaced.result (IsClean (view file) → IsTrue (view file).is_open → (view file).committed ≡ (view c.args.self.file).committed))
    (sym c.into_file.ensures) c.write_new_rows-replaced.ensures.kept

pub returns-clause-crash : goal.returns-clause-crash
returns-clause-crash g c =
    let S = g.S.Store in
    subst (λ file. IsClean (S.view file) → (db : Trees) → S.recovers file db
    → S.recovers c.args.self.file db ⊎ (db c.args.self.table ≡ new_rows c.args.cookies.now.rows))
    (sym c.into_file.ensures) c.write_new_rows-replaced.ensures.crash

pub returns-clause-failed : goal.returns-clause-failed
returns-clause-failed g c = λ failed.
    let (is, same) = c.write_new_rows-replaced.ensures.failed failed in
    ap₂ (λ file replaced. (file, replaced)) (c.into_file.ensures ∙ ap (λ (d : Durable _). d.file) same) is

pub returns-clause-storable : goal.returns-clause-storable
returns-clause-storable g c = c.write_new_rows-replaced.ensures.storable

pub returns-clause-reason : goal.returns-clause-reason
returns-clause-reason g c = c.write_new_rows-replaced.ensures.reason

pub returns-clause-clean : goal.returns-clause-clean
returns-clause-clean g c =
    let view = g.S.Store.view in
    subst (λ file. doubt (view c.args.self.file).is_clean ≤ doubt (view file).is_clean) (sym c.into_file.ensures) c.write_new_rows-replaced.ensures.clean
