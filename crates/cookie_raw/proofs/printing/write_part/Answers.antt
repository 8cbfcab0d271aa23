use Rattle.std.proofs.Common.{arith, refl}
use Rattle.std.proofs.lemmas.Grind.{common_steps}
use Rattle.cookie_raw.proofs.StyledWrites.{plain_from_styled, styled_two}
use Rattle.cookie_raw.proofs.printing.write_part.Goals as goal

pub returns-in_ok-write_str-in-Some-clause-styled : goal.returns-in_ok-write_str-in-Some-clause-styled
returns-in_ok-write_str-in-Some-clause-styled g c = λ flush ok.
    let label = c.in_ok-write_str-in-Some.ensures.styled flush refl in
    let value = c.write_str-in-Some.ensures.styled label.flush ok in
    styled_two _ _ _ _ _ _ _ label value (grind (arith, common_steps))

pub returns-in_ok-write_str-in-Some-clause-writes : goal.returns-in_ok-write_str-in-Some-clause-writes
returns-in_ok-write_str-in-Some-clause-writes g c = plain_from_styled _ _ _ _ _ (returns-in_ok-write_str-in-Some-clause-styled g c)
