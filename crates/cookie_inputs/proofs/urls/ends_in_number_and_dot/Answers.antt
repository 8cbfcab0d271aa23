use Rattle.std.proofs.Common.{ap, ◌∙◌}
use Rattle.cookie_inputs.specs.Urls.{is_number, last_label}
use Rattle.cookie_inputs.proofs.urls.ends_in_number_and_dot.Goals as goal

pub returns-in-Some : goal.returns-in-Some
returns-in-Some c =
    let stripped = c.in-Some.ensures.cases in
    rw stripped.0 (c.is_number.ensures ∙ ap is_number (c.after_last.ensures ∙ ap last_label stripped.1))
