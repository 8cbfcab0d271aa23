use Rattle.cookie_netscape.proofs.LinesRead.{fails_at_line, rows_in_lines-push}
use Rattle.cookie_netscape.proofs.laws.reads_line_by_line.Goals as goal

pub returns-clause-next : goal.returns-clause-next
returns-clause-next c = rows_in_lines-push

pub returns-clause-failed : goal.returns-clause-failed
returns-clause-failed c = fails_at_line
