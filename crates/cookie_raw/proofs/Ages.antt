-- Parsing a number of seconds, and the value of Max-Age.
use Rattle.std.proofs.Common.{◌≡◌, ◌≢◌, ◌&&◌, ◌==◌, ◌+◌, not, sym, ℕ, ◌<◌, ◌≤◌, min, Bool, true, false, leb, eqb, nat_eq, List, [], ◌∷◌, length, drop, codes, ℤ, pos, Option, Some, None, Result, Ok, Err, refl, ap, ◌∙◌, ⊎_elim, arith, w64, if◌then◌else◌}
use Rattle.std.specs.Char.{is_ascii_digit}
use Rattle.std.specs.List.{list_all, starts_with}
use Rattle.std.specs.Result.{result_unwrap_or, OkIff}
use Rattle.std.specs.Str.Parse.{ParsesSigned, digits_value}
use Rattle.std.proofs.lemmas.Bool.{and_parts, eqb-true, leb-true, le-leb, cases_lt}
use Rattle.std.proofs.Math.Nat.{min-eq_left, min-eq_right}
use Rattle.std.proofs.lemmas.Str.Parse.{IsDigitsTest, numerals_by_value, parse_signed_digits}
use Rattle.cookie_raw.specs.SetCookie.{age_of, of_seconds}

-- `list_all is_ascii_digit` tests for digits
tells_bytes : IsDigitsTest (λ ds. list_all is_ascii_digit ds ≡ true)
tells_bytes = record {
  empty = refl;
  parts = λ c cs e. let k = and_parts (is_ascii_digit c) (list_all is_ascii_digit cs) e in let m = and_parts (leb 48 c) (leb c 57) k.0 in ((leb-true 48 c m.0, leb-true c 57 m.1), k.1);
  more = λ c cs k e i. (le-leb 48 c k.0 i && le-leb c 57 k.1 i) && e i;
}

-- the number parsed, or `most` if it is greater
read_or_most : {E : Type 0} (r : Result ℤ E) (n most : ℕ) {P : Type 0} → P → OkIff r (P × (n < most + 1)) (pos n)
    → result_unwrap_or r (pos most) ≡ pos (min n most)
read_or_most (Ok z) n most p (within, e) = e ∙ ap pos (sym (min-eq_left (omega (arith, within.1))))
read_or_most (Err e) n most p refused =
    ap pos (sym (min-eq_right (⊎_elim (λ (l : most < n). let e : most ≤ n = omega arith in e) (λ l. absurd (refused (p, omega (arith, l)))) (cases_lt most n))))

-- parsing digits as a 64-bit number
pub seconds_read : {E : Type 0} (text : List ℕ) (r : Result ℤ E) → 0 < length text → list_all is_ascii_digit text ≡ true → ParsesSigned w64 10 text r
    → result_unwrap_or r (pos 9_223_372_036_854_775_807) ≡ pos (min (digits_value 10 text) 9_223_372_036_854_775_807)
seconds_read text r several digits h =
    read_or_most r (digits_value 10 text) 9_223_372_036_854_775_807 several
    (parse_signed_digits (numerals_by_value _ tells_bytes) w64 text r h digits)

-- None under a test that fails
none_under : {T : Type 0} (is_more : Bool) (some : Option T) → (if is_more && false then some else None) ≡ None
none_under true some = refl
none_under false some = refl

-- the value of Max-Age after a `-`
pub age_after_minus : (rest : List ℕ) → age_of (45 ∷ rest) ≡ (if list_all is_ascii_digit rest then Some (of_seconds 0) else None)
unfolding age_of
age_after_minus rest =
    ap (λ other. if list_all is_ascii_digit rest then Some (of_seconds 0) else other)
    (none_under (not (length (45 ∷ rest) == 0)) (Some (of_seconds (min (digits_value 10 (45 ∷ rest)) 9_223_372_036_854_775_807))))

-- the first byte is not a `-`
no_first_minus : (b : ℕ) (more is_minus : Bool) → eqb 45 b ≡ is_minus → 45 ≢ b → (is_minus && more) ≡ false
no_first_minus b more true e other = absurd (other (eqb-true 45 b e))
no_first_minus b more false e other = refl

-- a string that does not begin with a `-`
no_minus : (text : List ℕ) → ((rest : List ℕ) → text ≢ 45 ∷ rest) → starts_with nat_eq text (codes "-") ≡ false
no_minus [] other = refl
no_minus (b ∷ bs) other = no_first_minus b _ (eqb 45 b) refl (λ e. other bs (ap (λ x. x ∷ bs) (sym e)))

-- the value of Max-Age without a `-`
pub age_without_minus : (text : List ℕ) → ((rest : List ℕ) → text ≢ 45 ∷ rest)
    → age_of text
    ≡ (if not (length text == 0) && list_all is_ascii_digit text
    then Some (of_seconds (min (digits_value 10 text) 9_223_372_036_854_775_807)) else None)
unfolding age_of
age_without_minus text other =
    ap
    (λ is_minus. if is_minus && list_all is_ascii_digit (drop 1 text) then Some (of_seconds 0)
    else (if not (length text == 0) && list_all is_ascii_digit text
    then Some (of_seconds (min (digits_value 10 text) 9_223_372_036_854_775_807)) else None))
    (no_minus text other)
