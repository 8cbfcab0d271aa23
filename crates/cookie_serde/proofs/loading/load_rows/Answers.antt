use Rattle.std.proofs.lemmas.Result.{err_from_is_err_and}
use Rattle.std.specs.Fn.{FnReturnsAt}
use Rattle.cookie_serde.proofs.LoadErrors.{fails_by}
use Rattle.cookie_serde.proofs.loading.load_rows.Goals as goal

pub returns-in_err-numbered_rows-clause-failed : goal.returns-in_err-numbered_rows-clause-failed
returns-in_err-numbered_rows-clause-failed g c =
    let p = err_from_is_err_and c.from_residual.result c.from_residual.ensures.1 in
    rw (p.1, p.2) (fails_by (FnReturnsAt g.F.Fn c.args.cookie_of) _ _ _ c.in_err-numbered_rows.ensures.failed)
