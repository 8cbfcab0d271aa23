use Rattle.std.proofs.Common.{◌+◌, ◌*◌, ◌∷◌, Some, ap, sym, ◌∙◌}
use Rattle.std.specs.Char.{digit_value}
use Rattle.std.specs.Str.{chars}
use Rattle.cookie_ron.specs.RonInput.{byte_at}
use Rattle.cookie_ron.proofs.CharFronts.{no_first_digit, no_second_digit, two_digits}
use Rattle.cookie_ron.proofs.texts.byte_at.Goals as goal

pub returns-in_err-first : goal.returns-in_err-first
returns-in_err-first c = rw c.from_residual.ensures (sym (ap byte_at c.in_err-first.ensures))

pub returns-in_err-second : goal.returns-in_err-second
returns-in_err-second c =
    rw c.from_residual-in_err-second.ensures (sym (ap byte_at (c.in_ok-first.ensures ∙ ap (λ t. c.in_ok-first.first ∷ t) c.in_err-second.ensures)))

pub returns-in_err-high : goal.returns-in_err-high
returns-in_err-high c =
    let digits = c.in_ok-first.ensures ∙ ap (λ t. c.in_ok-first.first ∷ t) c.in_ok-second.ensures in
    rw c.from_residual-in_err-high.ensures
    (sym (ap byte_at digits ∙ no_first_digit c.in_ok-first.first c.in_ok-second.second (chars c.in_ok-second.rest.now) c.in_err-high.ensures.value))

pub returns-in_err-low : goal.returns-in_err-low
returns-in_err-low c =
    let digits = c.in_ok-first.ensures ∙ ap (λ t. c.in_ok-first.first ∷ t) c.in_ok-second.ensures in
    rw c.from_residual-in_err-low.ensures
    (sym (ap byte_at digits ∙ no_second_digit c.in_ok-first.first c.in_ok-second.second (chars c.in_ok-second.rest.now) c.in_err-low.ensures.value))

pub returns : goal.returns
returns c =
    let digits = c.in_ok-first.ensures ∙ ap (λ t. c.in_ok-first.first ∷ t) c.in_ok-second.ensures in
    let high = c.in_ok-high.ensures.value in
    let low = c.in_ok-low.ensures.value in
    ap (λ v. Some (v, chars c.in_ok-second.rest.now))
    (c.from.ensures ∙ ap (λ h. h * 16 + c.in_ok-low.low) high.1 ∙ ap (λ l. digit_value c.in_ok-first.first * 16 + l) low.1)
    ∙ sym (ap byte_at digits ∙ two_digits c.in_ok-first.first c.in_ok-second.second (chars c.in_ok-second.rest.now) high.0 low.0)
