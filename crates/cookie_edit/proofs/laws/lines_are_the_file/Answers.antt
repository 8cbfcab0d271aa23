use Rattle.cookie_edit.proofs.EndedLines.{joined}
use Rattle.cookie_edit.proofs.laws.lines_are_the_file.Goals as goal

pub returns : goal.returns
returns c text = joined text
