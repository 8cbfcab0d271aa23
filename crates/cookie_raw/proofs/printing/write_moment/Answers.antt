use Rattle.std.proofs.Common.{arith, refl}
use Rattle.std.proofs.lemmas.Grind.{common_steps}
use Rattle.cookie_raw.proofs.StyledWrites.{plain_from_styled, styled_two}
use Rattle.cookie_raw.proofs.printing.write_moment.Goals as goal

pub returns-clause-styled : goal.returns-clause-styled
returns-clause-styled g c = λ flush ok.
    let name = c.in_ok-write_str.ensures.styled flush refl in
    let date = c.write_date.ensures.styled name.flush ok in
    styled_two _ _ _ _ _ _ _ name date (grind (arith, common_steps))

pub returns-clause-writes : goal.returns-clause-writes
returns-clause-writes g c = plain_from_styled _ _ _ _ _ (returns-clause-styled g c)
