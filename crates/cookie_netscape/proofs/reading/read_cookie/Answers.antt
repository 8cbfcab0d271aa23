use Rattle.std.proofs.Common.{refl, sym, ap, Some, ◌∙◌}
use Rattle.std.proofs.lemmas.Result.{err_from_is_err_and}
use Rattle.cookie_netscape.specs.Lines.{content, header_cookie}
use Rattle.cookie_netscape.specs.Views.{entry_row, line_view}
use Rattle.cookie_netscape.proofs.HeaderLines.{by_fields, some_header}
use Rattle.cookie_netscape.proofs.reading.read_cookie.Goals as goal

pub returns-in_err-to_cookie-in-Cookie-clause-errors : goal.returns-in_err-to_cookie-in-Cookie-clause-errors
returns-in_err-to_cookie-in-Cookie-clause-errors c =
    let fault = err_from_is_err_and c.from_residual.result c.from_residual.ensures.1 in
    let row = entry_row c.in-Cookie.entry in
    rw (fault.1, fault.2)
    (row, by_fields (content c.args.line.now) (Some row) (sym c.read_line.ensures ∙ ap line_view c.in-Cookie.is))

pub returns-in_err-cookie-in-Other-clause-errors : goal.returns-in_err-cookie-in-Other-clause-errors
returns-in_err-cookie-in-Other-clause-errors c =
    let text = content c.args.line.now in
    let fault = err_from_is_err_and c.from_residual-in_err-cookie-in-Other.result c.from_residual-in_err-cookie-in-Other.ensures.1 in
    rw (fault.1, fault.2)
    (some_header text (header_cookie text) (sym c.read_line.ensures ∙ ap line_view c.in-Other.is) refl
    (rw c.content.ensures at c.in_err-cookie-in-Other.ensures.error))
