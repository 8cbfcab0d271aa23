use Rattle.std.proofs.Common.{ap, ◌∙◌}
use Rattle.cookie_netscape.specs.Files.{well_formed_rows}
use Rattle.cookie_edit.specs.Edits.{ended_lines, is_gone}
use Rattle.cookie_edit.proofs.EndedLines.{others_back, rows_of_others}
use Rattle.cookie_edit.proofs.laws.removing_and_reading_commute.Goals as goal

pub returns : goal.returns
returns c rows text = ap well_formed_rows (others_back (is_gone rows) text) ∙ rows_of_others (is_gone rows) (ended_lines text)
