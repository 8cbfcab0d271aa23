use Rattle.std.proofs.Common.{inl, map}
use Rattle.std.proofs.lemmas.Result.{err_from_is_err_and}
use Rattle.cookie_forms.specs.Saved.{saved_view}
use Rattle.cookie_serde.proofs.ParsedRon.{ron_built, ron_error, ron_refused}
use Rattle.cookie_serde.proofs.list_format.rows_of_ron.Goals as goal

pub returns-in_err-list-clause-failed : goal.returns-in_err-list-clause-failed
returns-in_err-list-clause-failed c =
    let fault = err_from_is_err_and c.from_residual.result c.from_residual.ensures.1 in
    rw (fault.1, fault.2) (inl (ron_error c.args.text.now c.from_ron.result c.from_ron.ensures.empty c.in_err-list.field-0.0 c.in_err-list.was c.in_err-list.ensures.errors))

pub returns-clause-built : goal.returns-clause-built
returns-clause-built c =
    ron_built c.args.text.now c.from_ron.result c.from_ron.ensures.empty (map saved_view c.in_ok-list.list.items) c.args.which c.rows_of_list.result
    c.in_ok-list.ensures.list c.rows_of_list.ensures.built

pub returns-clause-failed : goal.returns-clause-failed
returns-clause-failed c =
    ron_refused c.args.text.now c.from_ron.result c.from_ron.ensures.empty c.in_ok-list.list c.in_ok-list.was (map saved_view c.in_ok-list.list.items) c.rows_of_list.result
    c.in_ok-list.ensures.list c.rows_of_list.ensures.errors
