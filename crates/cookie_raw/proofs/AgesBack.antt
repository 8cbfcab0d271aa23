-- A printed Max-Age parses as the same Max-Age.
use Rattle.std.proofs.Common.{◌≡◌, ℕ, ◌*◌, ◌/◌, ◌%◌, ◌^◌, ◌<◌, ◌≤◌, min, Bool, true, false, not, ◌&&◌, cond, nat_eq, nat_le, ℤ, pos, negsuc, List, [], ◌∷◌, length, drop, Option, Some, codes, decimal, refl, ap, ◌∙◌, arith, rules}
use Rattle.std.specs.Prelude.{◌==◌}
use Rattle.std.specs.Char.{is_ascii_digit}
use Rattle.std.specs.List.{list_all, starts_with}
use Rattle.std.specs.Str.Parse.{digits_value}
use Rattle.std.proofs.lemmas.Bool.{false≢true, not_from_false, cond-true, cond-false, and_parts, and_from, and_left, ne_eqb, eqb-true, leb-true}
use Rattle.std.proofs.lemmas.Fmt.{decimal_nonempty, digits_decimal, digits_value-decimal}
use Rattle.std.proofs.lemmas.Str.Parse.{IsNumeralModel, numerals_by_value}
use Rattle.cookie_raw.specs.CookieText.{age_text}
use Rattle.cookie_raw.specs.PlainCookie.{is_plain_age, is_plain_text}
use Rattle.cookie_raw.specs.SetCookie.{age_of, of_seconds}
use Rattle.cookie_raw.proofs.AsciiTexts.{digits_are_printing, digits_start_visibly, digits_end_visibly, printing_is_plain}

-- `digits_value` gives the value of a string of digits
is_numeral : IsNumeralModel (λ ds. list_all is_ascii_digit ds ≡ true) (digits_value 10)
is_numeral = numerals_by_value (λ ds. list_all is_ascii_digit ds ≡ true) (search rules)

-- a string of digits does not begin with a `-`
no_minus : (value : List ℕ) → list_all is_ascii_digit value ≡ true → starts_with nat_eq value (codes "-") ≡ false
no_minus [] h = refl
no_minus (c ∷ cs) h =
    let first = and_parts (is_ascii_digit c) (list_all is_ascii_digit cs) h in
    let low : 48 ≤ c = omega (arith, leb-true 48 c (and_parts (nat_le 48 c) (nat_le c 57) first.0).0) in
    and_left (45 == c) true (ne_eqb 45 c (λ e. absurd (omega arith)))

-- the second of three choices
second_chosen : (first second : Bool) (x y z : Option ℤ) → first ≡ false → second ≡ true → cond first x (cond second y z) ≡ y
second_chosen first second x y z h k = cond-false first x (cond second y z) h ∙ cond-true second y z k

-- the value of Max-Age of a string of digits
digits_age : (value : List ℕ) → list_all is_ascii_digit value ≡ true → 0 < length value → digits_value 10 value ≤ 9_223_372_036_854_775_807
    → age_of value ≡ Some (of_seconds (digits_value 10 value))
unfolding age_of
digits_age value digits there small =
    let shortened : min (digits_value 10 value) 9_223_372_036_854_775_807 ≡ digits_value 10 value = omega arith in
    second_chosen (starts_with nat_eq value (codes "-") && list_all is_ascii_digit (drop 1 value)) (not (length value == 0) && list_all is_ascii_digit value) _ _ _
    (and_left (starts_with nat_eq value (codes "-")) (list_all is_ascii_digit (drop 1 value)) (no_minus value digits))
    (and_from (not (length value == 0)) (list_all is_ascii_digit value) (not_from_false (length value == 0) (ne_eqb (length value) 0 (λ e. absurd (omega arith)))) digits)
    ∙ ap (λ v. Some (of_seconds v)) shortened

-- the printed Max-Age of a plain cookie parses as the same Max-Age
pub age_back : (age : ℤ) → is_plain_age age ≡ true → age_of (age_text age) ≡ Some age
age_back (negsuc n) h = absurd (false≢true h)
age_back (pos n) h =
    let parts = and_parts (n % 1_000_000_000 == 0) (nat_le (n / 1_000_000_000) 9_223_372_036_854_775_807) h in
    let small : n / 1_000_000_000 ≤ 9_223_372_036_854_775_807 = leb-true (n / 1_000_000_000) 9_223_372_036_854_775_807 parts.1 in
    let whole : n / 1_000_000_000 * 1_000_000_000 ≡ n = omega (arith, eqb-true (n % 1_000_000_000) 0 parts.0) in
    let fits : n / 1_000_000_000 < 2 ^ 64 = omega arith in
    let value = digits_value-decimal is_numeral (n / 1_000_000_000) fits in
    digits_age (decimal (n / 1_000_000_000)) (digits_decimal is_numeral (n / 1_000_000_000) fits) (decimal_nonempty (n / 1_000_000_000) fits) (omega arith)
    ∙ ap (λ v. Some (of_seconds v)) value ∙ ap (λ nanoseconds. Some (pos nanoseconds)) whole

-- a printed Max-Age is a plain string
pub age_is_plain : (age : ℤ) → is_plain_age age ≡ true → is_plain_text (age_text age) ≡ true
age_is_plain (negsuc n) h = absurd (false≢true h)
age_is_plain (pos n) h =
    let parts = and_parts (n % 1_000_000_000 == 0) (nat_le (n / 1_000_000_000) 9_223_372_036_854_775_807) h in
    let small : n / 1_000_000_000 ≤ 9_223_372_036_854_775_807 = leb-true (n / 1_000_000_000) 9_223_372_036_854_775_807 parts.1 in
    let digits = digits_decimal is_numeral (n / 1_000_000_000) (omega arith) in
    let text : List ℕ = decimal (n / 1_000_000_000) in
    printing_is_plain text (digits_are_printing text digits) (digits_start_visibly text digits) (digits_end_visibly text digits)
