use Rattle.std.proofs.Common.{sym}
use Rattle.cookie_serde.specs.Selections.{is_selected}
use Rattle.cookie_serde.proofs.ListedRows.{on_error, some_walked}
use Rattle.cookie_serde.proofs.list_format.saved_list.Goals as goal

pub returns-in_err-to_saved-clause-memory : goal.returns-in_err-to_saved-clause-memory
returns-in_err-to_saved-clause-memory c =
    let l = c.loop-row in
    on_error c.from_residual.result
    (some_walked (is_selected c.args.which) c.args.store.now.rows l.yielded c.in-Some.row l.row-iterator c.next.new.self
    c.in-Some.ensures.steps l.invariant.rest (sym c.if-selects.ensures))

pub returns-in_err-push-clause-memory : goal.returns-in_err-push-clause-memory
returns-in_err-push-clause-memory c =
    let l = c.loop-row in
    on_error c.from_residual-in_err-push.result
    (some_walked (is_selected c.args.which) c.args.store.now.rows l.yielded c.in-Some.row l.row-iterator c.next.new.self
    c.in-Some.ensures.steps l.invariant.rest (sym c.if-selects.ensures))
