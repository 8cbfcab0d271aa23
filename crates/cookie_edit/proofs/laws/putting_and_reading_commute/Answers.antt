use Rattle.cookie_laws.specs.Rows.{has_key, key_of}
use Rattle.cookie_netscape.specs.Written.{as_written}
use Rattle.cookie_edit.specs.Edits.{new_line, session_expiry}
use Rattle.cookie_edit.proofs.SetLines.{new_is_ended, new_reads, set_rows}
use Rattle.cookie_edit.proofs.laws.putting_and_reading_commute.Goals as goal

pub returns : goal.returns
returns c text cookie fits =
    let laws = c.line_reads_back.ensures in
    set_rows laws.end (has_key (key_of cookie)) (new_line text cookie) (as_written cookie) text
    (new_is_ended text cookie (laws.one (session_expiry text) cookie fits))
    (new_reads laws.end text cookie (laws.line (session_expiry text) cookie fits))
