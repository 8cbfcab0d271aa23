-- The second of an expiry, written and read back.
use Rattle.std.proofs.Common.{◌≡◌, ℕ, ◌<◌, ◌≤◌, ◌^◌, min, max, get_or, ◌==◌, true, false, ℤ, pos, ◌+ℤ◌, ◌≤ℤ◌, ◌<ℤ◌, List, length, Some, bytes_eq, codes, decimal, ◌∙◌, arith, refl, sym, ap}
use Rattle.std.specs.Prelude.{int_le}
use Rattle.std.specs.Char.{is_ascii_control, is_ascii_digit}
use Rattle.std.specs.Int.{int_min}
use Rattle.std.specs.List.{list_all}
use Rattle.std.specs.Str.Parse.{digits_value}
use Rattle.std.proofs.lemmas.Bool.{and_parts, leb-true, lt-leb, and_right, and_left, false_from_ne_true, false≢true, or_from, ne_eqb}
use Rattle.std.proofs.lemmas.Slice.Eq.{bytes_eq-Decides}
use Rattle.std.proofs.lemmas.Fmt.{decimal_nonempty, digits_decimal, digits_value-decimal}
use Rattle.std.proofs.lemmas.Int.{ints}
use Rattle.std.proofs.lemmas.List.Folds.{list_any_none}
use Rattle.std.proofs.lemmas.List.Sums.{AllPass-from_list_all}
use Rattle.std.proofs.lemmas.Str.Parse.{IsNumeralModel, numerals_by_value}
use Rattle.jiff_core.specs.declared.civil.datetime.DateTime.{DateTime}
use Rattle.jiff_core.proofs.SignedLemmas.{signed_arith}
use Rattle.cookie_words.specs.Moments.{epoch, moment_at, moment_of, nanoseconds}
use Rattle.cookie_raw.specs.SetCookie.{of_seconds}
use Rattle.cookie_parts.specs.Expiry.{Expiry, AtUtc, SessionEnd, latest}
use Rattle.cookie_netscape.specs.Lines.{expiry_at, expiry_from, seconds_from}
use Rattle.cookie_netscape.specs.Written.{expiry_field, expiry_second, second_of}
use Rattle.cookie_netscape.specs.declared.writing.SessionExpiry.{SessionExpiry}
use Rattle.cookie_netscape.specs.declared.writing.SessionExpiry.TheVariants.{Zero, Empty}
use Rattle.cookie_netscape.proofs.CutSeconds.{no_nanos, second_is_small, second_of_cut}
use Rattle.cookie_netscape.proofs.JoinedFields.{IsField}
use Rattle.cookie_netscape.proofs.SecondsRead.{are_digits, no_dot, seconds_without_dot, whole_of_digits}

-- a digit is not a control character
digit_is_no_control : (b : ℕ) → is_ascii_digit b ≡ true → is_ascii_control b ≡ false
digit_is_no_control b digit =
    let parts = and_parts _ _ digit in
    let low : 48 ≤ b = leb-true 48 b parts.0 in
    let high : b ≤ 57 = leb-true b 57 parts.1 in
    or_from _ _ (and_right _ _ (lt-leb b 31 (omega arith))) (and_left _ _ (lt-leb 127 b (omega arith)))

-- digits have no control character
digits_are_field : (digits : List ℕ) → list_all is_ascii_digit digits ≡ true → IsField digits
digits_are_field digits all =
    list_any_none is_ascii_control digits
    (λ k d within. digit_is_no_control (get_or digits k d) (AllPass-from_list_all is_ascii_digit digits all k d within))

-- digits are read as their number of seconds
seconds_of_digits : (digits : List ℕ) → list_all is_ascii_digit digits ≡ true → (length digits == 0) ≡ false
    → seconds_from digits ≡ Some (digits_value 10 digits)
seconds_of_digits digits all some = seconds_without_dot digits (no_dot digits all) ∙ whole_of_digits digits some all

-- digits are not -1
no_minus : (digits : List ℕ) → list_all is_ascii_digit digits ≡ true → bytes_eq digits (codes "-1") ≡ false
no_minus digits all =
    false_from_ne_true _ (λ e. false≢true (sym (ap (list_all is_ascii_digit) ((bytes_eq-Decides digits (codes "-1")).0 e)) ∙ all))

-- digits are read as the expiry at their number of seconds
expiry_of_digits : (digits : List ℕ) (n : ℕ) → list_all is_ascii_digit digits ≡ true → (length digits == 0) ≡ false
    → digits_value 10 digits ≡ n → expiry_from digits ≡ Some (expiry_at n)
expiry_of_digits digits n all some value = rw (some, no_minus digits all, seconds_of_digits digits all some, value) refl

-- `digits_value` gives the value of a string of digits
is_numeral : IsNumeralModel (λ ds. list_all is_ascii_digit ds ≡ true) (digits_value 10)
is_numeral = numerals_by_value _ are_digits

-- the second of an expiry has at most 64 bits
second_fits : (expires : Expiry) → expiry_second expires < 2 ^ 64
second_fits (AtUtc end) = omega arith
second_fits SessionEnd = omega arith

-- the written second of an expiry has no control character
second_is_field : (expires : Expiry) → IsField (decimal (expiry_second expires))
second_is_field expires =
    digits_are_field (decimal (expiry_second expires))
    (digits_decimal is_numeral (expiry_second expires) (second_fits expires))

-- the written second of an expiry reads back
second_back : (expires : Expiry) → expiry_from (decimal (expiry_second expires)) ≡ Some (expiry_at (expiry_second expires))
second_back expires =
    let n = expiry_second expires in
    let fits = second_fits expires in
    let some = decimal_nonempty n fits in
    expiry_of_digits (decimal n) n (digits_decimal is_numeral n fits) (ne_eqb (length (decimal n)) 0 (λ e. omega arith))
    (digits_value-decimal is_numeral n fits)

-- a written expiry has no control character
pub expiry_is_field : (session : SessionExpiry) (expires : Expiry) → IsField (expiry_field session expires)
expiry_is_field session (AtUtc end) = second_is_field (AtUtc end)
expiry_is_field Zero SessionEnd = refl
expiry_is_field Empty SessionEnd = refl

-- a written expiry reads back
pub expiry_back : (session : SessionExpiry) (expires : Expiry) → expiry_from (expiry_field session expires) ≡ Some (expiry_at (expiry_second expires))
unfolding seconds_from
expiry_back session (AtUtc end) = second_back (AtUtc end)
expiry_back Zero SessionEnd = refl
expiry_back Empty SessionEnd = refl

-- more than zero is not at most zero
more_than_none : (n : ℤ) → pos 0 <ℤ n → int_le n (pos 0) ≡ false
more_than_none n h = grind (arith, ints)

-- the lesser of a number and one that is no less
min_of_lesser : (a b : ℤ) → a ≤ℤ b → int_min a b ≡ a
min_of_lesser a b h = grind (arith, ints)

-- a `DateTime` is the time at its nanoseconds from the epoch
abbrev pub IsScale : Type 0
IsScale = (moment : DateTime) → moment_at (nanoseconds (moment_of moment)) ≡ moment_of moment

-- a time in whole seconds, from the first one to the latest, is the expiry at its second
second_kept : IsScale → (cut : DateTime) (seconds : ℕ) → of_seconds seconds ≡ nanoseconds (moment_of cut)
    → pos 1_000_000_000 ≤ℤ nanoseconds (moment_of cut) → nanoseconds (moment_of cut) ≤ℤ nanoseconds latest
    → expiry_at (min (max 1 seconds) 18_446_744_073_709_551_615) ≡ AtUtc (moment_of cut)
second_kept scale cut seconds is early late =
    let some : 1 ≤ seconds = omega (arith, signed_arith, is, early) in
    let few : seconds ≤ 9_223_372_036_854_775_807 = omega (arith, signed_arith, is, second_is_small cut) in
    let written : min (max 1 seconds) 18_446_744_073_709_551_615 ≡ seconds = omega arith in
    let read : min seconds 9_223_372_036_854_775_807 ≡ seconds = omega arith in
    let later : nanoseconds epoch +ℤ of_seconds seconds ≡ nanoseconds (moment_of cut) = omega (arith, signed_arith, no_nanos, is) in
    rw (
      written,
      read,
      ne_eqb seconds 0 (λ e. omega arith),
      more_than_none (of_seconds seconds) (omega (arith, signed_arith, some)),
      later,
      min_of_lesser (nanoseconds (moment_of cut)) (nanoseconds latest) late,
      scale cut,
    ) refl

-- an expiry from the first second to the latest keeps its second
pub expiry_kept : IsScale → (time cut : DateTime) → moment_of cut ≡ record (moment_of time) { nanosecond = 0 }
    → pos 1_000_000_000 ≤ℤ nanoseconds (moment_of cut) → nanoseconds (moment_of cut) ≤ℤ nanoseconds latest
    → expiry_at (expiry_second (AtUtc (moment_of time))) ≡ AtUtc (moment_of cut)
expiry_kept scale time cut e early late =
    second_kept scale cut (second_of (moment_of time)) (second_of_cut time cut e (omega (arith, signed_arith, early))) early late
