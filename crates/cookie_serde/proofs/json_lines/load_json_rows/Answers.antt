use Rattle.std.proofs.lemmas.Result.{err_from_is_err_and}
use Rattle.cookie_serde.specs.JsonLines.{JsonParsesTo}
use Rattle.cookie_serde.proofs.LoadErrors.{fails_by}
use Rattle.cookie_serde.proofs.json_lines.load_json_rows.Goals as goal

pub returns-in_err-numbered_json_rows-clause-failed : goal.returns-in_err-numbered_json_rows-clause-failed
returns-in_err-numbered_json_rows-clause-failed g c =
    let p = err_from_is_err_and c.from_residual.result c.from_residual.ensures.1 in
    rw (p.1, p.2) (fails_by JsonParsesTo _ _ _ c.in_err-numbered_json_rows.ensures.failed)
