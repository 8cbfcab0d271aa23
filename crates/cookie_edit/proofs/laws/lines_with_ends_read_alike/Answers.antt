use Rattle.cookie_edit.proofs.ReadAlike.{alike}
use Rattle.cookie_edit.proofs.laws.lines_with_ends_read_alike.Goals as goal

pub returns : goal.returns
returns c text = alike c.line_reads_back.ensures.end text
