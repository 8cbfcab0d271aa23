use Rattle.std.proofs.Common.{◌≡◌, ◌==◌, ◌+◌, ◌-◌, None, Some, position, sym, arith}
use Rattle.std.proofs.lemmas.Grind.{common_steps}
use Rattle.cookie_device.proofs.LineEnds.{EndsLine-found, IsLastLine-none}
use Rattle.cookie_device.proofs.Scanning.{position-from_unscanned, none-from_unscanned}
use Rattle.cookie_device.proofs.lines.LineBuffer.line_end.Goals as goal

pub returns-in_err-place-clause-first : goal.returns-in_err-place-clause-first
returns-in_err-place-clause-first c =
    rw (c.from_residual.ensures, ← c.self.view_is) (sym (none-from_unscanned _ _ _ c.self.invariant (grind (arith, common_steps))))

pub returns-in_err-place-clause-last : goal.returns-in_err-place-clause-last
returns-in_err-place-clause-last c =
    let none : position (λ b. b == 10) c.args.self.now ≡ None = rw (← c.self.view_is) (none-from_unscanned _ _ _ c.self.invariant (grind (arith, common_steps))) in
    λ _. IsLastLine-none c.args.self.now none

pub returns-clause-first : goal.returns-clause-first
returns-clause-first c =
    rw (← c.self.view_is) (position-from_unscanned _ _ _ c.in_ok-place.place c.self.invariant (grind (arith, common_steps)))

pub returns-clause-line : goal.returns-clause-line
returns-clause-line c =
    let at = c.self.inside.scanned - c.self.inside.start + c.in_ok-place.place in
    let found : Some at ≡ position (λ b. b == 10) c.args.self.now = rw (← c.self.view_is) (position-from_unscanned _ _ _ c.in_ok-place.place c.self.invariant (grind (arith, common_steps))) in
    EndsLine-found c.args.self.now at (sym found)
