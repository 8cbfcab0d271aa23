-- A fraction of n digits, scaled to nine digits, is less than a second in nanoseconds.
use Rattle.std.proofs.Common.{length, arith}
use Rattle.cookie_forms.proofs.Powers.{scaled_below}
use Rattle.cookie_forms.proofs.moment.nanoseconds.Goals as goal

pub overflow_mul-result : goal.overflow_mul-result
overflow_mul-result c =
    omega (arith, scaled_below c.in_ok-value.value c.pow.result (length c.args.digits.now) c.if-digits-gt9.false c.in_ok-value.ensures.bound c.pow.ensures)

pub returns-clause-bound : goal.returns-clause-bound
returns-clause-bound c =
    scaled_below c.in_ok-value.value c.pow.result (length c.args.digits.now) c.if-digits-gt9.false c.in_ok-value.ensures.bound c.pow.ensures
