use Rattle.cookie_ron.proofs.PrintedBack.{line_back, read_back}
use Rattle.cookie_ron.proofs.laws.printed_reads_back.Goals as goal

pub returns-clause-text : goal.returns-clause-text
returns-clause-text c = read_back c.moments_read_back.ensures

pub returns-clause-line : goal.returns-clause-line
returns-clause-line c = line_back c.moments_read_back.ensures
