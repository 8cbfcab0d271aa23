-- The bytes that are split off are the leading digits, of which there are few.
use Rattle.std.proofs.Common.{◌≡◌, true, is_some, ap, sym, ◌∙◌, arith}
use Rattle.std.specs.Char.{is_ascii_digit}
use Rattle.std.specs.List.{list_all}
use Rattle.std.proofs.lemmas.Bool.{false≢true, cond-true}
use Rattle.std.proofs.lemmas.List.Sums.{prefix_len-le-length}
use Rattle.cookie_raw.proofs.DateNumbers.{prefix_passes, below_larger_power}
use Rattle.cookie_raw.proofs.date.number.Goals as goal

pub split_at-requires : goal.split_at-requires
split_at-requires c = rw c.digits_at_start-count.ensures (prefix_len-le-length is_ascii_digit c.args.text.now)

pub returns-in_err-digits_value-clause-value : goal.returns-in_err-digits_value-clause-value
returns-in_err-digits_value-clause-value c =
    let digits : list_all is_ascii_digit c.split_at.result.0.now ≡ true =
    rw (c.split_at.ensures.front, c.digits_at_start-count.ensures) (prefix_passes is_ascii_digit c.args.text.now) in
    absurd (false≢true (ap is_some (sym c.in_err-digits_value.was ∙ c.digits_value.ensures.value ∙ cond-true _ _ _ digits)))

pub returns-clause-bound : goal.returns-clause-bound
returns-clause-bound c =
    below_larger_power c.in_ok-digits_value.field-0 _ c.args.most c.in_ok-digits_value.ensures.bound (omega arith)
