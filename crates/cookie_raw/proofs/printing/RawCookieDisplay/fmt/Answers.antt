use Rattle.std.proofs.Common.{refl}
use Rattle.cookie_raw.specs.CookieText.{cookie_text}
use Rattle.cookie_raw.proofs.StyledWrites.{plain_from_styled, styled_five}
use Rattle.cookie_raw.proofs.printing.RawCookieDisplay.fmt.Goals as goal

pub returns-clause-styled : goal.returns-clause-styled
unfolding cookie_text
returns-clause-styled g c = λ flush ok.
    let pair = c.in_ok-write_pair.ensures.styled flush refl in
    let path = c.in_ok-write_part.ensures.styled pair.flush refl in
    let domain = c.in_ok-write_part-2.ensures.styled path.flush refl in
    let age = c.in_ok-write_age.ensures.styled domain.flush refl in
    let expires = c.write_expires.ensures.styled age.flush ok in
    styled_five _ _ _ _ _ _ _ _ _ _ _ _ _ pair path domain age expires
    (rw c.path.ensures (rw c.domain.ensures (rw c.max_age.ensures (rw c.expires.ensures refl))))

pub returns-clause-writes : goal.returns-clause-writes
returns-clause-writes g c = plain_from_styled _ _ _ _ _ (returns-clause-styled g c)
