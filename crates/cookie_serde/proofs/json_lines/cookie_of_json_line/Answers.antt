use Rattle.std.proofs.lemmas.Result.{err_from_is_err_and}
use Rattle.cookie_forms.specs.Saved.{saved_view}
use Rattle.cookie_serde.proofs.ParsedJson.{saved_parses, saved_error}
use Rattle.cookie_serde.proofs.json_lines.cookie_of_json_line.Goals as goal

pub returns-in_err-saved : goal.returns-in_err-saved
returns-in_err-saved c =
    let fault = err_from_is_err_and c.from_residual.result c.from_residual.ensures.1 in
    rw (fault.1, fault.2) (saved_error c.args.line.now c.in_err-saved.field-0.0 c.in_err-saved.ensures.errors)

pub returns : goal.returns
returns c =
    saved_parses c.args.line.now (saved_view c.in_ok-saved.saved) c.from_saved.result c.in_ok-saved.ensures.saved c.from_saved.ensures.cookie c.from_saved.ensures.errors
