use Rattle.std.proofs.Common.{◌++◌, ◌∙◌, ap, codes, refl, sym}
use Rattle.cookie_raw.proofs.StyledWrites.{plain_from_styled, styled_two}
use Rattle.cookie_script.specs.Errors.{main_error_text}
use Rattle.cookie_script.proofs.error.MainFaultDisplay.fmt.Goals as goal

pub returns-in_ok-write_str-in-BadRule-clause-styled : goal.returns-in_ok-write_str-in-BadRule-clause-styled
returns-in_ok-write_str-in-BadRule-clause-styled g c = λ flush ok.
    let label = c.in_ok-write_str-in-BadRule.ensures.styled flush refl in
    let line = c.write_str-in-BadRule-2.ensures.styled label.flush ok in
    styled_two _ _ _ _ _ _ _ label line
    (ap (λ text. codes "cookie_jar: bad rule in line " ++ text) c.format.ensures.text ∙ ap main_error_text (sym c.in-BadRule.is))

pub returns-in_ok-write_str-in-BadRule-clause-writes : goal.returns-in_ok-write_str-in-BadRule-clause-writes
returns-in_ok-write_str-in-BadRule-clause-writes g c = plain_from_styled _ _ _ _ _ (returns-in_ok-write_str-in-BadRule-clause-styled g c)

pub returns-in_ok-write_str-in-Run-clause-styled : goal.returns-in_ok-write_str-in-Run-clause-styled
returns-in_ok-write_str-in-Run-clause-styled g c = λ flush ok.
    let label = c.in_ok-write_str-in-Run.ensures.styled flush refl in
    let fault = c.fmt.ensures.styled label.flush ok in
    styled_two _ _ _ _ _ _ _ label fault (ap main_error_text (sym c.in-Run.is))

pub returns-in_ok-write_str-in-Run-clause-writes : goal.returns-in_ok-write_str-in-Run-clause-writes
returns-in_ok-write_str-in-Run-clause-writes g c = plain_from_styled _ _ _ _ _ (returns-in_ok-write_str-in-Run-clause-styled g c)

pub returns-in_ok-write_str-in-Convert-clause-styled : goal.returns-in_ok-write_str-in-Convert-clause-styled
returns-in_ok-write_str-in-Convert-clause-styled g c = λ flush ok.
    let label = c.in_ok-write_str-in-Convert.ensures.styled flush refl in
    let fault = c.fmt-in-Convert.ensures.styled label.flush ok in
    styled_two _ _ _ _ _ _ _ label fault (ap main_error_text (sym c.in-Convert.is))

pub returns-in_ok-write_str-in-Convert-clause-writes : goal.returns-in_ok-write_str-in-Convert-clause-writes
returns-in_ok-write_str-in-Convert-clause-writes g c = plain_from_styled _ _ _ _ _ (returns-in_ok-write_str-in-Convert-clause-styled g c)
