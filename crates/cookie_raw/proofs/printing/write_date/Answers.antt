use Rattle.std.proofs.Common.{arith, refl}
use Rattle.std.proofs.lemmas.Grind.{common_steps}
use Rattle.cookie_words.specs.Moments.{moment_of}
use Rattle.cookie_raw.proofs.DateText.{date_text_in_parts}
use Rattle.cookie_raw.proofs.StyledWrites.{plain_from_styled, styled_six}
use Rattle.cookie_raw.proofs.printing.write_date.Goals as goal

pub returns-clause-styled : goal.returns-clause-styled
returns-clause-styled g c = λ flush ok.
    let day = c.in_ok-write_day.ensures.styled flush refl in
    let first = c.in_ok-write_str.ensures.styled day.flush refl in
    let month = c.in_ok-write_month.ensures.styled first.flush refl in
    let second = c.in_ok-write_str-2.ensures.styled month.flush refl in
    let clock = c.in_ok-write_clock.ensures.styled second.flush refl in
    let zone = c.write_str-3.ensures.styled clock.flush ok in
    styled_six _ _ _ _ _ _ _ _ _ _ _ _ _ _ _ day first month second clock zone (rw (date_text_in_parts (moment_of c.args.date)) (grind (arith, common_steps)))

pub returns-clause-writes : goal.returns-clause-writes
returns-clause-writes g c = plain_from_styled _ _ _ _ _ (returns-clause-styled g c)
