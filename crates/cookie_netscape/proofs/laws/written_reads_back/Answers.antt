use Rattle.cookie_netscape.proofs.LinesBack.{ended_text_back, text_back}
use Rattle.cookie_netscape.proofs.laws.written_reads_back.Goals as goal

pub returns-clause-text : goal.returns-clause-text
returns-clause-text c = text_back

pub returns-clause-line : goal.returns-clause-line
returns-clause-line c = ended_text_back
