use Rattle.std.proofs.Common.{◌≡◌, List, [], sym, ap, ◌∙◌, arith, rules}
use Rattle.std.proofs.lemmas.List.{nil_from_length}
use Rattle.sqlite_value.specs.Order.{Row as TableRow}
use Rattle.sqlite_trees.specs.View.{IsClean, View}
use Rattle.durable_table.specs.Changes.{after}
use Rattle.durable_table.specs.declared.change.Change.{Change}
use Rattle.cookie_durable.specs.Sessions.{session_deletions}
use Rattle.cookie_durable.proofs.KeptRows.{committed_kept, kept_through, left_rows}
use Rattle.cookie_durable.proofs.sessions.remove_sessions.Goals as goal

pub returns-then-is_empty-clause-removed : goal.returns-then-is_empty-clause-removed
returns-then-is_empty-clause-removed g c now =
    let view = g.S.Store.view in
    let file = c.args.file.now in
    let table = c.args.table in
    let clean : IsClean (view file) = omega (arith, now, c.session_deletions.ensures.quiet.clean) in
    let leaves = left_rows table (view file) (c.requires.ready clean) (c.requires.sound clean) (g.met.S.Store.ordered file (c.requires.sound clean) table) in
    let none : c.in_ok-changes.changes.items ≡ [] = nil_from_length _ (search rules) in
    let rows : List TableRow = (view file).committed table in
    let read : (view c.session_deletions.new.file).committed table ≡ rows = ap (λ (v : View). v.committed table) (c.in_ok-changes.ensures.unwritten now).1 in
    let same : rows ≡ after (session_deletions rows) rows = ap (λ (cs : List Change). after cs rows) (sym none ∙ c.in_ok-changes.ensures.changes now) in
    read ∙ same ∙ leaves

pub returns-clause-removed : goal.returns-clause-removed
returns-clause-removed g c done =
    let view = g.S.Store.view in
    let file = c.args.file.now in
    let table = c.args.table in
    let now : IsClean (view c.session_deletions.new.file) = omega (arith, done, c.commit.ensures.clean) in
    let clean : IsClean (view file) = omega (arith, now, c.session_deletions.ensures.quiet.clean) in
    let leaves = left_rows table (view file) (c.requires.ready clean) (c.requires.sound clean) (g.met.S.Store.ordered file (c.requires.sound clean) table) in
    committed_kept table _ (view file) _ (c.in_ok-changes.ensures.unwritten now) (c.as_slice.ensures.value ∙ c.in_ok-changes.ensures.changes now) leaves _
    (c.in_ok-commit.ensures.committed done)

pub returns-in_err-commit-clause-kept : goal.returns-in_err-commit-clause-kept
returns-in_err-commit-clause-kept g c =
    let view = g.S.Store.view in
    let file = c.args.file.now in
    let table = c.args.table in
    kept_through _ _ _ _ table _ file c.session_deletions.new.file c.commit.new.store c.session_deletions.ensures.quiet
    c.commit.ensures.shield c.commit.ensures.clean c.commit.ensures.crash
    (λ now. (c.in_ok-changes.ensures.unwritten now, c.as_slice.ensures.value ∙ c.in_ok-changes.ensures.changes now))
    (λ clean. left_rows table (view file) (c.requires.ready clean) (c.requires.sound clean) (g.met.S.Store.ordered file (c.requires.sound clean) table))

pub returns-clause-kept : goal.returns-clause-kept
returns-clause-kept g c =
    let view = g.S.Store.view in
    let file = c.args.file.now in
    let table = c.args.table in
    kept_through _ _ _ _ table _ file c.session_deletions.new.file c.commit.new.store c.session_deletions.ensures.quiet
    c.commit.ensures.shield c.commit.ensures.clean c.commit.ensures.crash
    (λ now. (c.in_ok-changes.ensures.unwritten now, c.as_slice.ensures.value ∙ c.in_ok-changes.ensures.changes now))
    (λ clean. left_rows table (view file) (c.requires.ready clean) (c.requires.sound clean) (g.met.S.Store.ordered file (c.requires.sound clean) table))
