use Rattle.std.proofs.Common.{arith, refl}
use Rattle.std.proofs.lemmas.Grind.{common_steps}
use Rattle.cookie_raw.proofs.StyledWrites.{plain_from_styled, styled_two}
use Rattle.cookie_raw.proofs.printing.write_two_digits.Goals as goal

pub returns-clause-styled : goal.returns-clause-styled
returns-clause-styled g c = λ flush ok.
    let tens = c.in_ok-write_char.ensures.styled flush refl in
    styled_two _ _ _ _ _ _ _ tens (c.write_char-2.ensures.styled tens.flush ok) (grind (arith, common_steps))

pub returns-clause-writes : goal.returns-clause-writes
returns-clause-writes g c = plain_from_styled _ _ _ _ _ (returns-clause-styled g c)
