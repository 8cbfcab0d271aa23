use Rattle.std.proofs.Common.{◌++◌, ◌∙◌, ap, codes, refl, sym}
use Rattle.cookie_raw.proofs.StyledWrites.{plain_from_styled, styled_two}
use Rattle.cookie_script.specs.Errors.{convert_error_text}
use Rattle.cookie_script.proofs.error.ConvertFaultDisplay.fmt.Goals as goal

pub returns-in_ok-write_str-in-BadLine-clause-styled : goal.returns-in_ok-write_str-in-BadLine-clause-styled
returns-in_ok-write_str-in-BadLine-clause-styled g c = λ flush ok.
    let label = c.in_ok-write_str-in-BadLine.ensures.styled flush refl in
    let line = c.write_str-in-BadLine-2.ensures.styled label.flush ok in
    styled_two _ _ _ _ _ _ _ label line
    (ap (λ text. codes "bad line " ++ text) c.format.ensures.text ∙ ap convert_error_text (sym c.in-BadLine.is))

pub returns-in_ok-write_str-in-BadLine-clause-writes : goal.returns-in_ok-write_str-in-BadLine-clause-writes
returns-in_ok-write_str-in-BadLine-clause-writes g c = plain_from_styled _ _ _ _ _ (returns-in_ok-write_str-in-BadLine-clause-styled g c)
