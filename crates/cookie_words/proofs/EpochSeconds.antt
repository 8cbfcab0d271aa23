-- Seconds since the epoch, and the times that they are.
use Rattle.std.proofs.Common.{◌≡◌, ℤ, pos, ◌+ℤ◌, ◌-ℤ◌, ◌*ℤ◌, ◌≤ℤ◌, Bool, true, false, ◌&&◌, Some, None, arith, refl, sym, ap, ◌∙◌, FitsSigned, w64}
use Rattle.std.specs.Prelude.{int_le}
use Rattle.std.specs.Int.{int_div_euclid}
use Rattle.std.specs.Cmp.Derive.{both_true}
use Rattle.std.proofs.lemmas.Bool.{and_parts, false_from_ne_true}
use Rattle.std.proofs.lemmas.Int.{ints}
use Rattle.jiff_core.specs.Calendar.{days_from_civil}
use Rattle.jiff_core.specs.DateTime.{IsCivilNanos}
use Rattle.jiff_core.proofs.SignedLemmas.{signed_arith}
use Rattle.cookie_words.specs.Moments.{epoch, moment_at, moment_of, nanoseconds}
use Rattle.cookie_words.specs.Seconds.{epoch_second, first_second, last_second, moment_at_second}
use Rattle.jiff_core.specs.declared.civil.datetime.DateTime.{DateTime}
use Rattle.jiff.specs.Words.{civil_nanos}
use Rattle.jiff.proofs.Family.{civil_nanos_range}

-- the test that seconds lie in the years -9999 to 9999
abbrev pub is_counted : ℤ → Bool
is_counted seconds = int_le first_second seconds && int_le seconds last_second

-- if a is at most b, the test returns true
at_most : (a b : ℤ) → a ≤ℤ b → int_le a b ≡ true
at_most a b h = grind (arith, ints)

-- if the test returns true, a is at most b
no_later : (a b : ℤ) → int_le a b ≡ true → a ≤ℤ b
no_later a b h = grind (arith, ints)

-- the seconds of a time on the calendar pass the test
pub counted : (seconds n : ℤ) → n ≡ seconds *ℤ pos 1_000_000_000 → IsCivilNanos n → is_counted seconds ≡ true
counted seconds n e h =
    let first : first_second ≤ℤ seconds = omega (arith, signed_arith, e, h) in
    let last : seconds ≤ℤ last_second = omega (arith, signed_arith, e, h) in
    both_true (at_most first_second seconds first) (at_most seconds last_second last)

-- no other seconds pass the test
pub not_counted : (seconds n : ℤ) → n ≡ seconds *ℤ pos 1_000_000_000 → (IsCivilNanos n → ⊥) → is_counted seconds ≡ false
not_counted seconds n e beyond =
    false_from_ne_true _ (λ counts.
    let parts : (int_le first_second seconds ≡ true) × (int_le seconds last_second ≡ true) = and_parts _ _ counts in
    let first = no_later first_second seconds parts.0 in
    let last = no_later seconds last_second parts.1 in
    beyond (omega (arith, signed_arith, e, first, last), omega (arith, signed_arith, e, first, last)))

-- the same nanoseconds, by the definitions of this repository
pub same_nanos : (d : DateTime) → civil_nanos d ≡ nanoseconds (moment_of d)
unfolding civil_nanos nanoseconds
same_nanos d = refl

-- the day of the epoch
no_days : days_from_civil (pos 1970) 1 1 ≡ pos 0
unfolding days_from_civil
no_days = omega (arith, signed_arith)

-- the nanoseconds of the epoch
begins : (start : DateTime) → moment_of start ≡ epoch → civil_nanos start ≡ pos 0
unfolding nanoseconds
begins start e = same_nanos start ∙ ap nanoseconds e ∙ ap (λ days. days *ℤ pos 86_400_000_000_000 +ℤ pos 0) no_days

module _ (start : DateTime) (seconds : ℤ) (e : moment_of start ≡ epoch) where
  -- a time that is so many seconds after the epoch is the time of these seconds
  pub reported : ((moment : DateTime) → moment_at (nanoseconds (moment_of moment)) ≡ moment_of moment) → (moment : DateTime)
      → civil_nanos moment ≡ civil_nanos start +ℤ seconds *ℤ pos 1_000_000_000 → Some (moment_of moment) ≡ moment_at_second seconds
  reported scale moment lies =
      let begin : civil_nanos start ≡ pos 0 = begins start e in
      let n : civil_nanos moment ≡ seconds *ℤ pos 1_000_000_000 = omega (arith, signed_arith, lies, begin) in
      rw (counted seconds (civil_nanos moment) n (civil_nanos_range moment))
      (ap Some (sym (scale moment) ∙ ap moment_at (sym (same_nanos moment) ∙ n)))

  -- if no time is, there is none
  pub not_told : (IsCivilNanos (civil_nanos start +ℤ seconds *ℤ pos 1_000_000_000) → ⊥) → None ≡ moment_at_second seconds
  not_told beyond =
      let begin : civil_nanos start ≡ pos 0 = begins start e in
      let n : civil_nanos start +ℤ seconds *ℤ pos 1_000_000_000 ≡ seconds *ℤ pos 1_000_000_000 = omega (arith, signed_arith, begin) in
      rw (not_counted seconds _ n beyond)

-- the second of a time, by its nanoseconds since the epoch
pub second_is : (start moment : DateTime) → moment_of start ≡ epoch → (n : ℤ) → n ≡ civil_nanos moment -ℤ civil_nanos start
    → (seconds : ℤ) → seconds ≡ int_div_euclid n (pos 1_000_000_000)
    → FitsSigned w64 seconds × (seconds ≡ epoch_second (moment_of moment))
second_is start moment e n is seconds whole =
    let begin : civil_nanos start ≡ pos 0 = begins start e in
    let same : n ≡ civil_nanos moment = omega (arith, signed_arith, is, begin) in (
      omega (arith, signed_arith, same, whole, civil_nanos_range moment),
      whole ∙ ap (λ k. int_div_euclid k (pos 1_000_000_000)) (same ∙ same_nanos moment),
    )
