use Rattle.std.proofs.Common.{arith, refl}
use Rattle.std.proofs.lemmas.Grind.{common_steps}
use Rattle.cookie_raw.proofs.StyledWrites.{plain_from_styled, styled_five}
use Rattle.cookie_raw.proofs.printing.write_clock.Goals as goal

pub returns-clause-styled : goal.returns-clause-styled
returns-clause-styled g c = λ flush ok.
    let hour = c.in_ok-write_two_digits.ensures.styled flush refl in
    let first = c.in_ok-write_str.ensures.styled hour.flush refl in
    let minute = c.in_ok-write_two_digits-2.ensures.styled first.flush refl in
    let second = c.in_ok-write_str-2.ensures.styled minute.flush refl in
    let seconds = c.write_two_digits-3.ensures.styled second.flush ok in
    styled_five _ _ _ _ _ _ _ _ _ _ _ _ _ hour first minute second seconds (grind (arith, common_steps))

pub returns-clause-writes : goal.returns-clause-writes
returns-clause-writes g c = plain_from_styled _ _ _ _ _ (returns-clause-styled g c)
