use Rattle.std.proofs.Common.{ap, sym, arith}
use Rattle.std.proofs.lemmas.Grind.{common_steps}
use Rattle.cookie_ron.specs.RonInput.{char_at}
use Rattle.cookie_ron.proofs.texts.char_at.Goals as goal

pub returns-in_err-first : goal.returns-in_err-first
returns-in_err-first c = rw c.from_residual.ensures (sym (ap char_at c.in_err-first.ensures))

pub returns-in-92 : goal.returns-in-92
returns-in-92 c = rw c.in_ok-first.ensures (grind (arith, common_steps))

pub returns-in-34 : goal.returns-in-34
returns-in-34 c = rw c.in_ok-first.ensures (grind (arith, common_steps))

pub returns-in_default : goal.returns-in_default
returns-in_default c = rw c.in_ok-first.ensures (grind (arith, common_steps))
