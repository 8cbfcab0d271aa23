use Rattle.cookie_forms.proofs.Controls.{saved_line}
use Rattle.cookie_forms.proofs.laws.compact_texts_are_lines.Goals as goal

pub returns : goal.returns
returns c = saved_line
