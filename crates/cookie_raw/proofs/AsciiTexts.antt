-- A string of printable ASCII without `;`, and without white space at either end, is plain.
use Rattle.std.proofs.Common.{◌≡◌, ℕ, zero, suc, ◌<◌, Bool, true, false, not, ◌&&◌, ◌||◌, cond, nat_le, nat_lt, List, [], ◌∷◌, ◌++◌, length, bytes_eq, refl, ap, ◌∙◌, arith, IsAscii}
use Rattle.std.specs.Prelude.{◌==◌}
use Rattle.std.specs.Char.{is_ascii_digit, is_whitespace}
use Rattle.std.specs.List.{list_all, list_any}
use Rattle.std.specs.Str.{skip_leading_whitespace, drop_trailing_whitespace, encode_utf8_all, trim_start, trim_end, trim}
use Rattle.std.proofs.lemmas.Bool.{agree_below_at, not-true, not_from_false, cond-false, and_parts, and_from, and_left, and_right, or_from, ne_eqb, leb-true, ltb-true}
use Rattle.std.proofs.lemmas.List.Folds.{list_all-append}
use Rattle.std.proofs.lemmas.Slice.Eq.{bytes_eq-Decides}
use Rattle.std.proofs.lemmas.Str.{chars-IsAscii, encodes-IsAscii}
use Rattle.cookie_raw.specs.PlainCookie.{is_plain_text}
use Rattle.cookie_raw.specs.SetCookie.{is_semicolon}

-- a space or a visible ASCII character, other than `;`
abbrev pub is_printing : ℕ → Bool
is_printing b = nat_le 32 b && nat_lt b 127 && not (b == 59)

-- no white space at the start
abbrev pub starts_visibly : List ℕ → Bool
starts_visibly [] = true
starts_visibly (b ∷ bs) = not (is_whitespace b)

-- no white space at the end
abbrev pub ends_visibly : List ℕ → Bool
ends_visibly [] = true
ends_visibly (b ∷ []) = not (is_whitespace b)
ends_visibly (b ∷ c ∷ bs) = ends_visibly (c ∷ bs)

-- a test that all elements of two lists pass
pub all_of_both : (test : ℕ → Bool) (xs ys : List ℕ) → list_all test xs ≡ true → list_all test ys ≡ true → list_all test (xs ++ ys) ≡ true
all_of_both test xs ys h k = list_all-append test xs ys ∙ and_from (list_all test xs) (list_all test ys) h k

-- the end of a string is that of its last part
pub ends_as_last : (xs : List ℕ) (y : ℕ) (ys : List ℕ) → ends_visibly (y ∷ ys) ≡ true → ends_visibly (xs ++ y ∷ ys) ≡ true
ends_as_last [] y ys h = h
ends_as_last (x ∷ []) y ys h = h
ends_as_last (x ∷ c ∷ xs) y ys h = ends_as_last (c ∷ xs) y ys h

-- the start of a string is that of its first part
pub starts_as_first : (xs ys : List ℕ) → 0 < length xs → starts_visibly xs ≡ true → starts_visibly (xs ++ ys) ≡ true
starts_as_first [] ys there h = absurd (omega arith)
starts_as_first (x ∷ xs) ys there h = h

-- a printable character is ASCII and not `;`
printing_parts : (b : ℕ) → is_printing b ≡ true → (b < 127) × ((b == 59) ≡ false)
printing_parts b h =
    let outer = and_parts (nat_le 32 b && nat_lt b 127) (not (b == 59)) h in
    let inner = and_parts (nat_le 32 b) (nat_lt b 127) outer.0 in
    (ltb-true b 127 inner.1, not-true (b == 59) outer.1)

-- a string of printable characters is ASCII
printing_is_ascii : (xs : List ℕ) → list_all is_printing xs ≡ true → IsAscii xs
printing_is_ascii [] h i = omega arith
printing_is_ascii (x ∷ xs) h zero = omega (arith, (printing_parts x (and_parts (is_printing x) (list_all is_printing xs) h).0).0)
printing_is_ascii (x ∷ xs) h (suc i) = printing_is_ascii xs (and_parts (is_printing x) (list_all is_printing xs) h).1 i

-- and has no `;`
printing_has_no_semicolon : (xs : List ℕ) → list_all is_printing xs ≡ true → list_any is_semicolon xs ≡ false
printing_has_no_semicolon [] h = refl
printing_has_no_semicolon (x ∷ xs) h =
    let parts = and_parts (is_printing x) (list_all is_printing xs) h in
    or_from (is_semicolon x) (list_any is_semicolon xs) (printing_parts x parts.0).1 (printing_has_no_semicolon xs parts.1)

-- a string without white space at its start has none to skip
nothing_skipped : (xs : List ℕ) → starts_visibly xs ≡ true → skip_leading_whitespace xs ≡ xs
nothing_skipped [] h = refl
nothing_skipped (x ∷ xs) h = cond-false (is_whitespace x) (skip_leading_whitespace xs) (x ∷ xs) (not-true (is_whitespace x) h)

-- a character is kept if one after it is kept
stays_before : (b : ℕ) (bs kept : List ℕ) → kept ≡ bs → 0 < length bs → cond (is_whitespace b && length kept == 0) [] (b ∷ kept) ≡ b ∷ bs
stays_before b bs kept e h =
    let there : length kept ≡ 0 → ⊥ = λ none. absurd (omega (arith, ap length e)) in
    cond-false (is_whitespace b && length kept == 0) [] (b ∷ kept) (and_right (is_whitespace b) (length kept == 0) (ne_eqb (length kept) 0 there))
    ∙ ap (λ l. b ∷ l) e

-- a string without white space at its end has none to drop
nothing_dropped : (xs : List ℕ) → ends_visibly xs ≡ true → drop_trailing_whitespace xs ≡ xs
nothing_dropped [] h = refl
nothing_dropped (x ∷ []) h =
    cond-false (is_whitespace x && true) [] (x ∷ []) (and_left (is_whitespace x) true (not-true (is_whitespace x) h))
nothing_dropped (x ∷ c ∷ xs) h = stays_before x (c ∷ xs) (drop_trailing_whitespace (c ∷ xs)) (nothing_dropped (c ∷ xs) h) (omega arith)

-- trimming the start of an ASCII string without white space there changes nothing
start_stays : (xs : List ℕ) → IsAscii xs → starts_visibly xs ≡ true → trim_start xs ≡ xs
unfolding trim_start
start_stays xs ascii h =
    ap (λ cs. encode_utf8_all (skip_leading_whitespace cs)) (chars-IsAscii xs ascii) ∙ ap encode_utf8_all (nothing_skipped xs h) ∙ encodes-IsAscii xs ascii

-- nor does trimming its end
end_stays : (xs : List ℕ) → IsAscii xs → ends_visibly xs ≡ true → trim_end xs ≡ xs
unfolding trim_end
end_stays xs ascii h =
    ap (λ cs. encode_utf8_all (drop_trailing_whitespace cs)) (chars-IsAscii xs ascii) ∙ ap encode_utf8_all (nothing_dropped xs h) ∙ encodes-IsAscii xs ascii

-- a string of printable characters without white space at either end is plain
pub printing_is_plain : (xs : List ℕ) → list_all is_printing xs ≡ true → starts_visibly xs ≡ true → ends_visibly xs ≡ true → is_plain_text xs ≡ true
unfolding is_plain_text
printing_is_plain xs printing starts ends =
    let ascii = printing_is_ascii xs printing in
    let same : trim xs ≡ xs = ap trim_end (start_stays xs ascii starts) ∙ end_stays xs ascii ends in
    and_from (not (list_any is_semicolon xs)) (bytes_eq (trim xs) xs)
    (not_from_false (list_any is_semicolon xs) (printing_has_no_semicolon xs printing)) ((bytes_eq-Decides (trim xs) xs).1 same)

-- a digit is printable and not white space
digit_is_visible : (b : ℕ) → is_ascii_digit b ≡ true → (is_printing b ≡ true) × (not (is_whitespace b) ≡ true)
digit_is_visible b h =
    let bounds = and_parts (nat_le 48 b) (nat_le b 57) h in
    let known = agree_below_at (λ c. not (is_ascii_digit c) || (is_printing c && not (is_whitespace c))) (λ c. true) 58 b refl (omega (arith, leb-true b 57 bounds.1)) in
    and_parts (is_printing b) (not (is_whitespace b)) (rw h at known)

-- digits are printable
pub digits_are_printing : (ds : List ℕ) → list_all is_ascii_digit ds ≡ true → list_all is_printing ds ≡ true
digits_are_printing [] h = refl
digits_are_printing (d ∷ ds) h =
    let parts = and_parts (is_ascii_digit d) (list_all is_ascii_digit ds) h in
    and_from (is_printing d) (list_all is_printing ds) (digit_is_visible d parts.0).0 (digits_are_printing ds parts.1)

-- digits have no white space at their start
pub digits_start_visibly : (ds : List ℕ) → list_all is_ascii_digit ds ≡ true → starts_visibly ds ≡ true
digits_start_visibly [] h = refl
digits_start_visibly (d ∷ ds) h = (digit_is_visible d (and_parts (is_ascii_digit d) (list_all is_ascii_digit ds) h).0).1

-- and none at their end
pub digits_end_visibly : (ds : List ℕ) → list_all is_ascii_digit ds ≡ true → ends_visibly ds ≡ true
digits_end_visibly [] h = refl
digits_end_visibly (d ∷ []) h = (digit_is_visible d (and_parts (is_ascii_digit d) true h).0).1
digits_end_visibly (d ∷ e ∷ ds) h = digits_end_visibly (e ∷ ds) (and_parts (is_ascii_digit d) (list_all is_ascii_digit (e ∷ ds)) h).1
