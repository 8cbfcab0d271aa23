-- Reading a number of seconds.
use Rattle.std.proofs.Common.{◌≡◌, sym, ℕ, ◌+◌, ◌<◌, ◌≤◌, ◌==◌, Bool, ◌&&◌, not, min, true, false, leb, List, [], ◌∷◌, length, take, drop, Option, Some, None, is_some, option_map, Result, Ok, Err, if◌then◌else◌, refl, ap, ◌∙◌, ⊎_elim, arith}
use Rattle.std.specs.Char.{is_ascii_digit}
use Rattle.std.specs.List.{after_first, before_first, list_all, position_or_len}
use Rattle.std.specs.Result.{result_unwrap_or, OkIff}
use Rattle.std.specs.Str.Parse.{ParsesUnsigned, digits_value}
use Rattle.std.proofs.lemmas.Bool.{and_parts, leb-true, le-leb, cases_lt, false≢true, ne_eqb}
use Rattle.std.proofs.lemmas.List.{drop_all}
use Rattle.std.proofs.Math.Nat.{min-eq_left, min-eq_right}
use Rattle.std.proofs.Math.Seq.{take-length}
use Rattle.std.proofs.lemmas.Str.Parse.{IsDigitsTest, numerals_by_value, parse_digits}
use Rattle.cookie_netscape.specs.Lines.{is_dot, seconds_from, whole_from}

-- `list_all is_ascii_digit` tests for digits
pub are_digits : IsDigitsTest (λ ds. list_all is_ascii_digit ds ≡ true)
are_digits = record {
  empty = refl;
  parts = λ c cs e. let k = and_parts (is_ascii_digit c) (list_all is_ascii_digit cs) e in let m = and_parts (leb 48 c) (leb c 57) k.0 in ((leb-true 48 c m.0, leb-true c 57 m.1), k.1);
  more = λ c cs k e i. (le-leb 48 c k.0 i && le-leb c 57 k.1 i) && e i;
}

-- the number that was read, or `most` if it is greater
read_or_most : {E : Type 0} (r : Result ℕ E) (n most : ℕ) {P : Type 0} → P → OkIff r (P × (n < most + 1)) n
    → result_unwrap_or r most ≡ min n most
read_or_most (Ok z) n most p (within, e) = e ∙ sym (min-eq_left (omega (arith, within.1)))
read_or_most (Err e) n most p beyond =
    sym (min-eq_right (⊎_elim (λ (l : most < n). let e : most ≤ n = omega arith in e) (λ l. absurd (beyond (p, omega (arith, l)))) (cases_lt most n)))

-- digits as a 64-bit number
pub seconds_read : {E : Type 0} (text : List ℕ) (r : Result ℕ E) → 0 < length text → list_all is_ascii_digit text ≡ true → ParsesUnsigned 64 10 text r
    → result_unwrap_or r 18_446_744_073_709_551_615 ≡ min (digits_value 10 text) 18_446_744_073_709_551_615
seconds_read text r several digits h =
    read_or_most r (digits_value 10 text) 18_446_744_073_709_551_615 several
    (parse_digits (numerals_by_value _ are_digits) 64 text r h digits)

-- a digit is no dot
digit_is_no_dot : (b : ℕ) → is_ascii_digit b ≡ true → is_dot b ≡ false
digit_is_no_dot b digit = ne_eqb b 46 (λ e. false≢true (sym (ap is_ascii_digit e) ∙ digit))

-- digits have no dot
pub no_dot : (digits : List ℕ) → list_all is_ascii_digit digits ≡ true → position_or_len is_dot digits ≡ length digits
no_dot [] all = refl
no_dot (b ∷ digits) all =
    let parts = and_parts (is_ascii_digit b) (list_all is_ascii_digit digits) all in
    rw (digit_is_no_dot b parts.0) (omega (arith, no_dot digits parts.1))

-- a third condition that holds
and_holds : (some digits last : Bool) (number : Option ℕ) → last ≡ true
    → (if some && digits && last then number else None) ≡ (if some && digits then number else None)
and_holds true true last number holds = rw holds refl
and_holds true false last number holds = refl
and_holds false digits last number holds = refl

-- the seconds of a field without a dot
pub seconds_without_dot : (field : List ℕ) → position_or_len is_dot field ≡ length field → seconds_from field ≡ whole_from field
unfolding seconds_from
seconds_without_dot field none =
    let whole : before_first is_dot field ≡ field = ap (λ n. take n field) none ∙ take-length field in
    let fraction : after_first is_dot field ≡ [] = ap (λ n. drop (n + 1) field) none ∙ drop_all (length field + 1) field (omega arith) in
    rw (whole, fraction) (and_holds (not (length field == 0)) (list_all is_ascii_digit field) true _ refl)

-- the seconds of a field that was split at its dot
pub seconds_of_parts : (field whole fraction : List ℕ) → whole ≡ before_first is_dot field → fraction ≡ after_first is_dot field
    → list_all is_ascii_digit fraction ≡ true → seconds_from field ≡ whole_from whole
unfolding seconds_from
seconds_of_parts field whole fraction is behind digits =
    rw (← is, ← behind) (and_holds (not (length whole == 0)) (list_all is_ascii_digit whole) _ _ digits)

-- the number of digits
pub whole_of_digits : (digits : List ℕ) → (length digits == 0) ≡ false → list_all is_ascii_digit digits ≡ true
    → whole_from digits ≡ Some (digits_value 10 digits)
whole_of_digits digits some all = rw (some, all) refl

-- the second of two conditions that hold
second_holds : (some digits : Bool) (number : ℕ) → is_some (if some && digits then Some number else None) ≡ true → digits ≡ true
second_holds true true number found = refl
second_holds true false number found = absurd (false≢true found)
second_holds false digits number found = absurd (false≢true found)

-- a number without a fraction has digits alone
pub whole_is_digits : (field : List ℕ) → is_some (whole_from field) ≡ true → list_all is_ascii_digit field ≡ true
whole_is_digits field some = second_holds (not (length field == 0)) (list_all is_ascii_digit field) (digits_value 10 field) some

-- what is some after a map was some before it
some_before : (f : ℕ → ℕ) (found : Option ℕ) → is_some (option_map f found) ≡ true → is_some found ≡ true
some_before f None some = some
some_before f (Some n) some = refl

-- a number, at most `most`, of a field that has no fraction
pub seconds_if_whole : (field : List ℕ) (most : ℕ) (read : Option ℕ) → read ≡ option_map (λ n. min n most) (whole_from field)
    → is_some read ≡ true → read ≡ option_map (λ n. min n most) (seconds_from field)
seconds_if_whole field most read is some =
    let digits = whole_is_digits field (some_before (λ n. min n most) (whole_from field) (sym (ap is_some is) ∙ some)) in
    is ∙ ap (option_map (λ n. min n most)) (sym (seconds_without_dot field (no_dot field digits)))
