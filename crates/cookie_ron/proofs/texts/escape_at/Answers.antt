use Rattle.std.proofs.Common.{ap, sym}
use Rattle.cookie_ron.specs.RonInput.{escape_at}
use Rattle.cookie_ron.proofs.texts.escape_at.Goals as goal

pub returns-in_err-letter : goal.returns-in_err-letter
returns-in_err-letter c = rw c.from_residual.ensures (sym (ap escape_at c.in_err-letter.ensures))
