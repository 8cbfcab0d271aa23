-- Text without characters that are escaped.
use Rattle.std.proofs.Common.{◌≡◌, ℕ, suc, ◌<◌, ◌≤◌, ◌++◌, inl, inr, Bool, true, false, not, ◌||◌, List, [], ◌∷◌, codes, flat_map, refl, sym, ap, subst, ◌∙◌, arith, if◌then◌else◌, nat_le, lit<, lit≤}
use Rattle.std.specs.Prelude.{◌==◌}
use Rattle.std.specs.Char.{digit_value, encode_utf8}
use Rattle.std.specs.Fmt.{digits}
use Rattle.std.specs.Str.{NoCharPasses}
use Rattle.std.specs.Str.Parse.{AllDigits}
use Rattle.std.proofs.lemmas.Bool.{lt-leb, not-true}
use Rattle.std.proofs.lemmas.Bool.Decides.{leb_tells}
use Rattle.std.proofs.lemmas.Fmt.{digits_is_IsNumeral}
use Rattle.std.proofs.lemmas.List.{append-nil}
use Rattle.std.proofs.lemmas.Str.{encode_ascii, NoCharPasses-append, NoCharPasses-nil}
use Rattle.ucd_category.specs.GeneralCategory.{general_category}
use Rattle.ucd_category.specs.GeneralCategoryRows.{general_category_rows}
use Rattle.ucd_category.specs.declared.GeneralCategory.TheVariants.{Unassigned}
use Rattle.ucd_category.proofs.GeneralCategoryLemmas.{general_category_stepped}
use Rattle.ucd_table.proofs.Computing.{tables}
use Rattle.ucd_table.proofs.Facts.{Stepped-below, Stepped-beyond}
use Rattle.cookies.specs.Escapes.{escaped_char, is_escaped, is_escaped_category}

-- no character of the text is escaped
abbrev pub IsSafe : List ℕ → Type 0
IsSafe text = NoCharPasses is_escaped text

-- one character
pub one_char : (c : ℕ) → is_escaped c ≡ false → IsSafe (encode_utf8 c)
one_char c plain = (c ∷ [], append-nil (encode_utf8 c), (plain, tt))

-- `…` is not escaped
pub ellipsis : is_escaped 8230 ≡ false
unfolding tables general_category general_category_rows
ellipsis = refl

-- a visible ASCII character is not escaped
visible : (c : ℕ) → 32 ≤ c → c < 127 → is_escaped c ≡ false
unfolding tables general_category_stepped
visible c low high =
    let either_way = Stepped-below general_category general_category_stepped (λ x category. nat_le x 31 || not (is_escaped_category category)) 127 refl c high in
    not-true _ (subst (λ is_low. (is_low || not (is_escaped c)) ≡ true) (lt-leb c 31 (omega arith)) either_way)

true_false : true ≡ false → ⊥
true_false bad = cc

-- what is escaped is a code point
escaped_bound : (c : ℕ) → is_escaped c ≡ true → c ≤ 0x10_FFFF
unfolding tables general_category_stepped
escaped_bound c is =
    elim (leb_tells c 0x10_FFFF) [
      | inl below ↦ below.1
      | inr above ↦
          let unassigned : general_category c ≡ Unassigned = Stepped-beyond general_category general_category_stepped refl c above.1 in
          absurd (true_false (sym is ∙ ap is_escaped_category unassigned))
    ]

-- one visible ASCII character
pub one_ascii : (c : ℕ) → 32 ≤ c → c < 127 → IsSafe (c ∷ [])
one_ascii c low high = (c ∷ [], append-nil (encode_utf8 c) ∙ encode_ascii c (omega arith), (visible c low high, tt))

-- a digit is a visible ASCII character
digit_low : (d : ℕ) → digit_value d < 16 → 32 ≤ d
digit_low d small =
    elim (leb_tells (suc d) 48) [
      | inl below ↦ let other : digit_value d ≡ 36 = rw below.0 refl in omega (arith, other, small)
      | inr above ↦ omega arith
    ]

digit_high : (d : ℕ) → digit_value d < 16 → d < 127
digit_high d small =
    elim (leb_tells d 126) [
      | inl below ↦ omega arith
      | inr above ↦
          let other : digit_value d ≡ 36 =
          rw (
            lt-leb (suc d) 48 (omega arith),
            lt-leb (suc d) 58 (omega arith),
            lt-leb (suc d) 65 (omega arith),
            lt-leb (suc d) 91 (omega arith),
            lt-leb (suc d) 97 (omega arith),
            lt-leb (suc d) 123 (omega arith),
          ) refl in
          omega (arith, other, small)
    ]

-- digits
safe_digits : (ds : List ℕ) → AllDigits 16 ds → IsSafe ds
safe_digits [] all = NoCharPasses-nil is_escaped
safe_digits (d ∷ ds) all =
    NoCharPasses-append is_escaped (d ∷ []) ds (one_ascii d (digit_low d all.0) (digit_high d all.0)) (safe_digits ds all.1)

-- an escape of one letter
letter_escape : (letter : ℕ) → 32 ≤ letter → letter < 127 → IsSafe (92 ∷ letter ∷ [])
letter_escape letter low high = NoCharPasses-append is_escaped (92 ∷ []) (letter ∷ []) (one_ascii 92 (lit≤ tt) (lit< tt)) (one_ascii letter low high)

-- an escape by number
number_escape : (c : ℕ) → is_escaped c ≡ true → IsSafe (codes "\\u{" ++ digits 16 false c ++ codes "}")
number_escape c is =
    let all = (digits_is_IsNumeral 16 false (lit≤ tt) (lit≤ tt) c (omega (arith, escaped_bound c is))).0.1 in
    let opening = NoCharPasses-append is_escaped (92 ∷ 117 ∷ []) (123 ∷ []) (letter_escape 117 (lit≤ tt) (lit< tt)) (one_ascii 123 (lit≤ tt) (lit< tt)) in
    NoCharPasses-append is_escaped (codes "\\u{" ++ digits 16 false c) (codes "}")
    (NoCharPasses-append is_escaped (codes "\\u{") (digits 16 false c) opening (safe_digits (digits 16 false c) all))
    (one_ascii 125 (lit≤ tt) (lit< tt))

-- either of two
either : (is_first : Bool) (first second : List ℕ) → IsSafe first → IsSafe second → IsSafe (if is_first then first else second)
either true first second one other = one
either false first second one other = other

-- a character that is neither a line feed, a carriage return nor a tab
safe_other : (c : ℕ) (is_hidden : Bool) → is_escaped c ≡ is_hidden
    → IsSafe (if is_hidden then codes "\\u{" ++ digits 16 false c ++ codes "}" else encode_utf8 c)
safe_other c true is = number_escape c is
safe_other c false is = one_char c is

safe_char : (c : ℕ) → IsSafe (escaped_char c)
safe_char c =
    either (c == 10) _ _ (letter_escape 110 (lit≤ tt) (lit< tt))
    (either (c == 13) _ _ (letter_escape 114 (lit≤ tt) (lit< tt))
    (either (c == 9) _ _ (letter_escape 116 (lit≤ tt) (lit< tt)) (safe_other c (is_escaped c) refl)))

pub safe_chars : (cs : List ℕ) → IsSafe (flat_map escaped_char cs)
safe_chars [] = NoCharPasses-nil is_escaped
safe_chars (c ∷ cs) = NoCharPasses-append is_escaped (escaped_char c) (flat_map escaped_char cs) (safe_char c) (safe_chars cs)
