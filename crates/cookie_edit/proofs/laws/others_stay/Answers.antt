use Rattle.cookie_edit.specs.Edits.{is_gone, missing_end, new_line, session_expiry}
use Rattle.cookie_edit.proofs.EndedLines.{others_back}
use Rattle.cookie_edit.proofs.SetLines.{new_is_ended, new_reads, others_added, others_replaced}
use Rattle.cookie_edit.proofs.laws.others_stay.Goals as goal

pub returns-clause-removed : goal.returns-clause-removed
returns-clause-removed c rows text = others_back (is_gone rows) text

pub returns-clause-replaced : goal.returns-clause-replaced
returns-clause-replaced c text cookie fits named =
    let laws = c.line_reads_back.ensures in
    others_replaced cookie (new_line text cookie) (missing_end text) text
    (new_is_ended text cookie (laws.one (session_expiry text) cookie fits))
    (new_reads laws.end text cookie (laws.line (session_expiry text) cookie fits))
    named

pub returns-clause-added : goal.returns-clause-added
returns-clause-added c text cookie fits other =
    let laws = c.line_reads_back.ensures in
    others_added cookie (new_line text cookie) text
    (new_is_ended text cookie (laws.one (session_expiry text) cookie fits))
    (new_reads laws.end text cookie (laws.line (session_expiry text) cookie fits))
    other
