-- Lines that have no white space around them, but for HTAB before an empty value.
use Rattle.std.proofs.Common.{◌≡◌, ◌≢◌, ℕ, suc, ◌+◌, ◌-◌, ◌<◌, ◌==◌, ◌&&◌, leb, false, List, [], ◌∷◌, ◌++◌, length, take, drop, codes, nat_eq, get_or, refl, sym, ap, ◌∙◌, ⊎_elim, arith, take_all, length-append}
use Rattle.std.specs.Char.{is_ascii_control, is_ascii_whitespace}
use Rattle.std.specs.List.{ends_with, suffix_len}
use Rattle.std.proofs.lemmas.Bool.{cases_lt, and_cases, le-leb, and_from, and_right, both_ways, cond-false, eq-eqb, eqb-true, false_from_ne_true, leb-false, lt-leb, or_from, or_parts}
use Rattle.std.proofs.lemmas.List.{get_or-append_right, get_or_append_left, drop_all}
use Rattle.std.proofs.lemmas.List.Sums.{suffix_len_is}
use Rattle.std.proofs.Math.Seq.{drop-cons, take-append_seam}
use Rattle.std.specs.Cmp.Lexicographic.{pointwise}
use Rattle.cookie_netscape.specs.Lines.{content}
use Rattle.cookie_netscape.proofs.JoinedFields.{IsField, none_passes}

-- what remains of a line before the white space at its end
abbrev pub before_space : List ℕ → List ℕ
before_space line = take (length line - suffix_len is_ascii_whitespace line) line

-- the byte is no white space
abbrev pub IsNoSpace : ℕ → Type 0
IsNoSpace b = is_ascii_whitespace b ≡ false

-- the last byte of a string
abbrev pub last_byte : List ℕ → ℕ
last_byte text = get_or text (length text - 1) 0

-- a byte that is neither a control character nor a space is no white space
pub no_space : (b : ℕ) → is_ascii_control b ≡ false → (b == 32) ≡ false → IsNoSpace b
no_space b control other =
    let low : 31 < b =
    ⊎_elim (λ e. absurd (both_ways _ e (le-leb 0 b (omega arith)))) (λ e. leb-false b 31 e)
    (and_cases (leb 0 b) (leb b 31) (or_parts (leb 0 b && leb b 31) (leb 127 b && leb b 127) control).0) in
    let high : 32 < b = ⊎_elim (λ l. l) (λ le. absurd (both_ways _ other (eq-eqb b 32 (omega (arith, low, le))))) (cases_lt 32 b) in
    or_from _ _ (or_from _ _ (and_right _ _ (lt-leb b 10 (omega arith))) (and_right _ _ (lt-leb b 13 (omega arith)))) (and_right _ _ (lt-leb b 32 (omega arith)))

-- what is behind all but the last byte
last_alone : (text : List ℕ) → length text ≢ 0 → drop (length text - 1) text ≡ last_byte text ∷ []
last_alone text some =
    let within : length text - 1 < length text = omega (arith, some) in
    drop-cons text (length text - 1) 0 within ∙ ap (λ rest. last_byte text ∷ rest) (drop_all (suc (length text - 1)) text (omega (arith, some)))

-- a string without control characters that does not end in a space ends in no white space
pub last_is_no_space : (text : List ℕ) → (length text == 0) ≡ false → IsField text → ends_with nat_eq text (codes " ") ≡ false
    → IsNoSpace (last_byte text)
last_is_no_space text some field other =
    let named : length text ≢ 0 = λ none. both_ways _ some (eq-eqb (length text) 0 none) in
    let within : length text - 1 < length text = omega (arith, named) in
    no_space (last_byte text) (none_passes is_ascii_control text field (length text - 1) 0 within)
    (false_from_ne_true _ (λ e. both_ways _ other (ap (pointwise nat_eq (codes " ")) (last_alone text named) ∙ and_from _ _ (eq-eqb 32 (last_byte text) (sym (eqb-true (last_byte text) 32 e))) refl)))

-- a line that begins with no white space loses what is at its end alone
pub no_space_first : (line : List ℕ) → IsNoSpace (get_or line 0 0) → content line ≡ before_space line
no_space_first [] first = refl
no_space_first (b ∷ rest) first = ap (λ n. before_space (drop n (b ∷ rest))) (cond-false _ _ _ first)

-- a line that ends in no white space keeps its end
no_space_last : (line : List ℕ) → IsNoSpace (last_byte line) → before_space line ≡ line
no_space_last line last =
    let none = suffix_len_is is_ascii_whitespace line (length line) 0 (omega arith) (λ k past within. absurd (omega (arith, past, within))) (λ some. last) in
    take_all (length line - suffix_len is_ascii_whitespace line) line (omega (arith, none))

-- HTAB at the end of a line is dropped
tab_dropped : (front : List ℕ) → 0 < length front → IsNoSpace (last_byte front) → before_space (front ++ 9 ∷ []) ≡ front
tab_dropped front some last =
    let long = length-append front (9 ∷ []) in
    let one = suffix_len_is is_ascii_whitespace (front ++ 9 ∷ []) (length front) 0 (omega (arith, long))
    (λ k past within. ap is_ascii_whitespace (ap (λ i. get_or (front ++ 9 ∷ []) i 0) (let e : k ≡ length front = omega (arith, long, past, within) in e) ∙ get_or-append_right front (9 ∷ []) (length front) (length front) 0 refl (omega arith) ∙ ap (λ i. get_or (9 ∷ []) i 0) (let e : length front - length front ≡ 0 = omega arith in e)))
    (λ positive. ap is_ascii_whitespace (get_or_append_left front (9 ∷ []) 0 (length front - 1) (omega arith)) ∙ last) in
    ap (λ n. take n (front ++ 9 ∷ [])) (let e : length (front ++ 9 ∷ []) - suffix_len is_ascii_whitespace (front ++ 9 ∷ []) ≡ length front = omega (arith, long, one) in e)
    ∙ take-append_seam front (9 ∷ [])

-- the last byte of two strings is that of the second
pub last_of_second : (front back : List ℕ) → 0 < length back → last_byte (front ++ back) ≡ last_byte back
last_of_second front back some =
    get_or-append_right front back (length front) (length (front ++ back) - 1) 0 refl (omega (arith, length-append front back))
    ∙ ap (λ i. get_or back i 0) (let e : length (front ++ back) - 1 - length front ≡ length back - 1 = omega (arith, length-append front back) in e)

-- what a line has before HTAB and an empty value
pub empty_value : (front : List ℕ) → 0 < length front → IsNoSpace (get_or front 0 0) → IsNoSpace (last_byte front)
    → content (front ++ 9 ∷ []) ≡ front
empty_value front some first last =
    no_space_first (front ++ 9 ∷ []) (ap is_ascii_whitespace (get_or_append_left front (9 ∷ []) 0 0 some) ∙ first)
    ∙ tab_dropped front some last

-- a line of which a value is the end
pub some_value : (front : List ℕ) (v : ℕ) (value : List ℕ) → 0 < length front → IsNoSpace (get_or front 0 0) → IsNoSpace (last_byte (v ∷ value))
    → content (front ++ 9 ∷ v ∷ value) ≡ front ++ 9 ∷ v ∷ value
some_value front v value some first last =
    no_space_first (front ++ 9 ∷ v ∷ value) (ap is_ascii_whitespace (get_or_append_left front (9 ∷ v ∷ value) 0 0 some) ∙ first)
    ∙ no_space_last (front ++ 9 ∷ v ∷ value)
    (ap is_ascii_whitespace (last_of_second front (9 ∷ v ∷ value) (omega arith) ∙ last_of_second (9 ∷ []) (v ∷ value) (omega arith)) ∙ last)
