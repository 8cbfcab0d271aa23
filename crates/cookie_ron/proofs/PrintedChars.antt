-- A printed character is read as that character, and so are the characters of a string.
use Rattle.std.proofs.Common.{◌≡◌, ◌≤◌, ◌<◌, ◌==◌, ◌||◌, ◌⊎◌, ℕ, List, [], ◌∷◌, ◌++◌, length, Bool, true, false, flat_map, if◌then◌else◌, Some, codes, inl, inr, append-nil, append_assoc, refl, sym, ap, subst, ◌∙◌, arith}
use Rattle.std.proofs.lemmas.Bool.{eqb-true}
use Rattle.std.proofs.lemmas.Bool.Decides.{Decides-eqb, nat_tests, not_from_Decides}
use Rattle.std.proofs.lemmas.Fmt.{digits_is_IsNumeral, hex_one_digit, hex_two_digits}
use Rattle.std.proofs.lemmas.List.Folds.{list_all-append}
use Rattle.std.proofs.lemmas.Str.{IsUtf8-encode, IsUtf8-nil, IsUtf8-append, chars-append, chars-nil, chars_past_char, encodes-chars, scalars-chars}
use Rattle.std.specs.Char.{IsScalar, digit_value, encode_utf8, is_ascii, is_ascii_hexdigit, is_control}
use Rattle.std.specs.Fmt.{digits}
use Rattle.std.specs.List.{list_all}
use Rattle.std.specs.Str.{IsUtf8, all_scalars, chars}
use Rattle.std.specs.Str.Parse.{AllDigits, digits_value}
use Rattle.cookie_ron.specs.Grammar.{CharForm, CharForms, Text, escaped_by, is_blank}
use Rattle.cookie_ron.specs.Printed.{printed_char, quoted}
use Rattle.cookie_ron.proofs.Bools.{both_false, both_true}
use Rattle.cookie_ron.proofs.HasRule.{HasRule, both, ascii_chars, ascii_utf8, just, token}

-- one of two strings, by a test
choose : (P : List ℕ → Type 0) (test : Bool) (a b : List ℕ) → (test ≡ true → P a) → (test ≡ false → P b) → P (if test then a else b)
choose P true a b here there = here refl
choose P false a b here there = there refl

-- a one-letter escape
short : (c letter : ℕ) → is_ascii letter ≡ true → escaped_by letter ≡ Some c → HasRule (CharForm c) (codes "\\" ++ letter ∷ [])
short c letter low is =
    let all_low : list_all is_ascii (codes "\\" ++ letter ∷ []) ≡ true = rw low refl in
    record {
      utf8 = ascii_utf8 (codes "\\" ++ letter ∷ []) all_low;
      matches = inr (inl (letter, ascii_chars (codes "\\" ++ letter ∷ []) all_low, is));
    }

-- a quote or a backslash
escaped : (c : ℕ) → (c ≡ 34) ⊎ (c ≡ 92) → HasRule (CharForm c) (codes "\\" ++ c ∷ [])
escaped c (inl quote) = subst (λ x. HasRule (CharForm x) (codes "\\" ++ x ∷ [])) (sym quote) (short 34 34 refl refl)
escaped c (inr slash) = subst (λ x. HasRule (CharForm x) (codes "\\" ++ x ∷ [])) (sym slash) (short 92 92 refl refl)

is_escaped : (c : ℕ) → ((c == 34) || (c == 92)) ≡ true → (c ≡ 34) ⊎ (c ≡ 92)
is_escaped c h = grind (arith, nat_tests)

-- another character with a one-letter escape
lettered : (c d letter : ℕ) → (c == d) ≡ true → is_ascii letter ≡ true → escaped_by letter ≡ Some d → HasRule (CharForm c) (codes "\\" ++ letter ∷ [])
lettered c d letter h low is = subst (λ x. HasRule (CharForm x) (codes "\\" ++ letter ∷ [])) (sym (eqb-true c d h)) (short d letter low is)

-- a character as itself
plain : (c : ℕ) → IsScalar c → ((c == 34) || (c == 92)) ≡ false → HasRule (CharForm c) (encode_utf8 c)
plain c s h = record {
  utf8 = IsUtf8-encode c s;
  matches = inl (
    chars_past_char (encode_utf8 c) [] c (IsUtf8-encode c s) (sym (append-nil _)) ∙ ap (λ cs. c ∷ cs) chars-nil,
    not_from_Decides (c == 34) (Decides-eqb c 34) (both_false (c == 34) (c == 92) h).0,
    not_from_Decides (c == 92) (Decides-eqb c 92) (both_false (c == 34) (c == 92) h).1,
  );
}

hexdigit : (x : ℕ) → digit_value x < 16 → is_ascii_hexdigit x ≡ true
hexdigit x h = grind (arith, nat_tests)

low_digit : (x : ℕ) → is_ascii_hexdigit x ≡ true → is_ascii x ≡ true
low_digit x h = grind (arith, nat_tests)

hexdigits : (ds : List ℕ) → AllDigits 16 ds → list_all is_ascii_hexdigit ds ≡ true
hexdigits [] h = refl
hexdigits (x ∷ ds) h = rw (hexdigit x h.0, hexdigits ds h.1) refl

low_digits : (ds : List ℕ) → list_all is_ascii_hexdigit ds ≡ true → list_all is_ascii ds ≡ true
low_digits [] h = refl
low_digits (x ∷ ds) h =
    let each = both_true (is_ascii_hexdigit x) (list_all is_ascii_hexdigit ds) h in
    rw (low_digit x each.0, low_digits ds each.1) refl

-- a character by its number, in hexadecimal digits
numbered : (c : ℕ) (ds : List ℕ) → IsScalar c → AllDigits 16 ds → 1 ≤ length ds → length ds ≤ 6 → digits_value 16 ds ≡ c
    → HasRule (CharForm c) (codes "\\u{" ++ ds ++ codes "}")
numbered c ds s all some few is =
    let hex : list_all is_ascii_hexdigit ds ≡ true = hexdigits ds all in
    let low : list_all is_ascii (ds ++ codes "}") ≡ true = rw (list_all-append is_ascii ds (codes "}"), low_digits ds hex) refl in
    record {
      utf8 = ascii_utf8 (codes "\\u{" ++ ds ++ codes "}") low;
      matches = inr (inr (inr (ds, ascii_chars (codes "\\u{" ++ ds ++ codes "}") low, some, few, (hex, is), s)));
    }

control_below : (c : ℕ) → is_control c ≡ true → c < 256
control_below c h = grind (arith, nat_tests)

one_or_two : (c : ℕ) → c < 256 → (c < 16) ⊎ (16 ≤ c) → length (digits 16 false c) ≤ 6
one_or_two c small (inl one) = omega (arith, ap length (hex_one_digit false c one))
one_or_two c small (inr two) = omega (arith, ap length (hex_two_digits false c two small))

-- a control character
control : (c : ℕ) → IsScalar c → is_control c ≡ true → HasRule (CharForm c) (codes "\\u{" ++ digits 16 false c ++ codes "}")
control c s h =
    let small : c < 256 = control_below c h in
    let is = digits_is_IsNumeral 16 false (omega arith) (omega arith) c (omega arith) in
    numbered c (digits 16 false c) s is.0.1 is.0.0 (one_or_two c small (grind arith)) is.1

pub char_form : (c : ℕ) → IsScalar c → HasRule (CharForm c) (printed_char c)
char_form c s =
    choose (HasRule (CharForm c)) ((c == 34) || (c == 92)) (codes "\\" ++ c ∷ []) _ (λ h. escaped c (is_escaped c h)) (λ not_escaped.
    choose (HasRule (CharForm c)) (c == 10) (codes "\\n") _ (λ h. lettered c 10 110 h refl refl) (λ _.
    choose (HasRule (CharForm c)) (c == 13) (codes "\\r") _ (λ h. lettered c 13 114 h refl refl) (λ _.
    choose (HasRule (CharForm c)) (c == 9) (codes "\\t") _ (λ h. lettered c 9 116 h refl refl) (λ _.
    choose (HasRule (CharForm c)) (is_control c) (codes "\\u{" ++ digits 16 false c ++ codes "}") (encode_utf8 c) (control c s) (λ _.
    plain c s not_escaped)))))

pub char_forms : (cs : List ℕ) → all_scalars cs ≡ true → HasRule (CharForms cs) (flat_map printed_char cs)
char_forms [] h = record { utf8 = IsUtf8-nil; matches = ([], chars-nil, tt) }
char_forms (c ∷ cs) h =
    let each = both_true _ (all_scalars cs) h in
    let one = char_form c each.0 in
    let others = char_forms cs each.1 in
    record {
      utf8 = IsUtf8-append (printed_char c) (flat_map printed_char cs) one.utf8 others.utf8;
      matches = (
        chars (printed_char c) ∷ others.matches.0,
        chars-append (printed_char c) (flat_map printed_char cs) one.utf8 ∙ ap (λ s. chars (printed_char c) ++ s) others.matches.1,
        (one.matches, others.matches.2),
      );
    }

-- a quoted string
pub text_in_quotes : (blanks text : List ℕ) → list_all is_blank blanks ≡ true → list_all is_ascii (blanks ++ codes "\"") ≡ true → IsUtf8 text
    → HasRule (Text text) (blanks ++ quoted text)
text_in_quotes blanks text b low u =
    let whole = both (token blanks (codes "\"") b low) (both (char_forms (chars text) (scalars-chars text u)) (just (codes "\"") refl)) in
    let quoted_rule : HasRule (Text text) ((blanks ++ codes "\"") ++ (flat_map printed_char (chars text) ++ codes "\"")) =
    record { utf8 = whole.utf8; matches = (chars text, sym (encodes-chars text u), whole.matches) } in
    subst (HasRule (Text text)) (append_assoc blanks (codes "\"") (flat_map printed_char (chars text) ++ codes "\"")) quoted_rule
