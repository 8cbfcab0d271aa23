use Rattle.std.proofs.Common.{◌∷◌, Some, None, ap, sym, ◌∙◌}
use Rattle.std.specs.Str.{chars}
use Rattle.cookie_ron.specs.RonInput.{code_at, code_of}
use Rattle.cookie_ron.proofs.CharFronts.{code_of_bytes, code_read, code_unread, no_code_at}
use Rattle.cookie_ron.proofs.texts.code_at.Goals as goal

pub returns-in_err-brace : goal.returns-in_err-brace
returns-in_err-brace c = rw c.from_residual.ensures (sym (ap code_at c.in_err-brace.ensures))

pub returns-then-brace-ne123 : goal.returns-then-brace-ne123
returns-then-brace-ne123 c = sym (no_code_at (chars c.args.input.now) (chars c.in_ok-brace.rest.now) c.in_ok-brace.brace c.in_ok-brace.ensures c.if-brace-ne123.true)

pub returns-in_err-digits : goal.returns-in_err-digits
returns-in_err-digits c =
    rw c.from_residual-in_err-digits.ensures
    (sym (code_unread (chars c.args.input.now) (chars c.in_ok-brace.rest.now) (c.in_ok-brace.ensures ∙ ap (λ b. b ∷ chars c.in_ok-brace.rest.now) c.if-brace-ne123.false) (sym c.in_err-digits.ensures)))

pub returns-in_err-code : goal.returns-in_err-code
returns-in_err-code c =
    rw c.from_residual-in_err-code.ensures
    (sym (code_read (chars c.args.input.now) (chars c.in_ok-brace.rest.now) (chars c.in_ok-digits.digits.now) (chars c.in_ok-digits.behind.now) None
    (c.in_ok-brace.ensures ∙ ap (λ b. b ∷ chars c.in_ok-brace.rest.now) c.if-brace-ne123.false) (sym c.in_ok-digits.ensures)
    (ap (λ t. code_of (chars t)) (sym c.as_bytes.ensures.value) ∙ code_of_bytes c.as_bytes.result.now c.as_bytes.ensures.utf8 ∙ sym c.in_err-code.ensures)))

pub returns : goal.returns
returns c =
    sym (code_read (chars c.args.input.now) (chars c.in_ok-brace.rest.now) (chars c.in_ok-digits.digits.now) (chars c.in_ok-digits.behind.now) (Some c.in_ok-code.code)
    (c.in_ok-brace.ensures ∙ ap (λ b. b ∷ chars c.in_ok-brace.rest.now) c.if-brace-ne123.false) (sym c.in_ok-digits.ensures)
    (ap (λ t. code_of (chars t)) (sym c.as_bytes.ensures.value) ∙ code_of_bytes c.as_bytes.result.now c.as_bytes.ensures.utf8 ∙ sym c.in_ok-code.ensures))
