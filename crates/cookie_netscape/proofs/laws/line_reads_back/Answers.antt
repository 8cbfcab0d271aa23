use Rattle.std.proofs.Common.{refl}
use Rattle.cookie_netscape.proofs.CookieLines.{line_back, line_lacks}
use Rattle.cookie_netscape.proofs.TrailingSpace.{end_ignored}
use Rattle.cookie_netscape.proofs.laws.line_reads_back.Goals as goal

pub returns-clause-line : goal.returns-clause-line
returns-clause-line c session row fits = line_back session row fits

pub returns-clause-end : goal.returns-clause-end
returns-clause-end c line b space = end_ignored line b space

pub returns-clause-one : goal.returns-clause-one
returns-clause-one c session row fits = line_lacks 10 refl refl session row fits
