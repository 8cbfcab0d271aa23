-- One more digit: the digits so far are hexadecimal, and the value is sixteen times the last one plus the digit.
use Rattle.std.proofs.Common.{◌≡◌, ◌+◌, ◌*◌, get_or, take, true, ap, subst, sym, ◌∙◌, arith}
use Rattle.std.specs.Str.Parse.{digits_value}
use Rattle.std.specs.Char.{is_ascii_hexdigit, digit_value}
use Rattle.std.proofs.lemmas.Int.Digits.{digits_value_more}
use Rattle.cookie_ron.proofs.Digits.{all_more}
use Rattle.cookie_ron.proofs.Powers.{power_more, power_below, is_hex}
use Rattle.cookie_ron.proofs.texts.hex_value.Goals as goal

pub overflow_mul-value : goal.overflow_mul-value
overflow_mul-value c = omega (arith, power_below c.loop-digit.digit-index (omega arith))

pub overflow_add-value : goal.overflow_add-value
overflow_add-value c = omega (arith, power_below c.loop-digit.digit-index (omega arith), c.in_ok-value.ensures.value)

pub loop-digit-preserved : goal.loop-digit-preserved
loop-digit-preserved c =
    let i = c.loop-digit.digit-index in
    let more = digits_value_more 16 c.args.digits.now i c.loop-digit-test.true in
    let read : c.from.result ≡ get_or c.args.digits.now i 0 = c.from.ensures in
    let hex = subst (λ d. is_ascii_hexdigit d ≡ true) read (is_hex c.from.result c.in_ok-value.ensures.value.0) in
    record {
      digits = all_more is_ascii_hexdigit c.args.digits.now i c.loop-digit-test.true c.loop-digit.invariant.digits hex;
      value =
          ap (λ v. v * 16 + c.in_ok-value.field-0) c.loop-digit.invariant.value
          ∙ ap (λ d. digits_value 16 (take i c.args.digits.now) * 16 + d) (c.in_ok-value.ensures.value.1 ∙ ap digit_value read)
          ∙ sym more;
      bound = omega (arith, power_more i, c.in_ok-value.ensures.value);
    }
