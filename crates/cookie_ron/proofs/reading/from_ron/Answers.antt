use Rattle.std.proofs.Common.{◌≡◌, length, map, arith}
use Rattle.std.proofs.lemmas.Bool.Decides.{nat_tests}
use Rattle.std.proofs.lemmas.List.{nil_from_length}
use Rattle.std.proofs.lemmas.Result.{IfOk-weaker, IfErr-weaker, err_from_is_err_and}
use Rattle.cookie_forms.specs.Saved.{saved_view}
use Rattle.cookie_ron.specs.Views.{entry_view}
use Rattle.cookie_ron.proofs.RonResults.{empty_is_ron_error, ron_error, list_result, moment_error}
use Rattle.cookie_ron.proofs.reading.from_ron.Goals as goal

pub returns-in_err-list_at-clause-errors : goal.returns-in_err-list_at-clause-errors
returns-in_err-list_at-clause-errors c =
    let fault = err_from_is_err_and c.from_residual.result c.from_residual.ensures.1 in
    rw (fault.1, fault.2)
    (ron_error c.args.text.now c.in_err-list_at.field-0.0 c.in_err-list_at.ensures.errors)

pub returns-clause-list : goal.returns-clause-list
returns-clause-list c =
    IfOk-weaker c.with_parsed_expiries.result _ _
    (λ list moments. list_result c.args.text.now (map entry_view c.in_ok-list_at.field-0.items) (map saved_view list.items)
    c.in_ok-list_at.ensures.read moments)
    c.with_parsed_expiries.ensures.read

pub returns-clause-errors : goal.returns-clause-errors
returns-clause-errors c =
    IfErr-weaker c.with_parsed_expiries.result _ _
    (λ e errors. moment_error c.args.text.now (map entry_view c.in_ok-list_at.field-0.items) e
    c.in_ok-list_at.ensures.read errors)
    c.with_parsed_expiries.ensures.errors

pub returns-then-is_empty-clause-errors : goal.returns-then-is_empty-clause-errors
returns-then-is_empty-clause-errors c =
    let none : length c.args.text.now ≡ 0 = grind (arith, nat_tests, c.if-is_empty.ensures) in
    empty_is_ron_error c.args.text.now (nil_from_length c.args.text.now none)
