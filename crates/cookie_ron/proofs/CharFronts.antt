-- Characters of strings: an escape is read exactly if the grammar has one there.
use Rattle.std.proofs.Common.{◌≡◌, ◌≢◌, ℕ, zero, suc, ◌+◌, ◌*◌, ◌<◌, ◌≤◌, List, [], ◌∷◌, ◌++◌, length, take, drop, Bool, true, false, Option, Some, None, option_map, option_and_then, ◌==◌, ◌&&◌, if◌then◌else◌, nat_le, get_or, cond, ltb, length-append, length-drop, add-one, refl, sym, ap, subst, ◌∙◌, inl, inr, arith}
use lib.Utf8.{scalar}
use Rattle.std.specs.Char.{digit_value, is_ascii_hexdigit, IsScalar}
use Rattle.std.specs.List.{list_all, position_or_len}
use Rattle.std.specs.Borrow.{Bor}
use Rattle.std.specs.Option.{MatchOption}
use Rattle.std.specs.Str.{chars, IsAscii, IsCharBoundary, IsUtf8, NonePass}
use Rattle.std.specs.Str.Pattern.{FindsChar, HasCharAt, SplitsAroundMatch}
use Rattle.std.specs.Str.Parse.{digits_value}
use Rattle.std.proofs.lemmas.Bool.Decides.{Decides-eqb, nat_tests}
use Rattle.std.proofs.lemmas.Bool.{and_from, and_left, and_parts, and_right, both_ways, false_from_ne_true, ltb-true, lt-ltb}
use Rattle.std.proofs.lemmas.Option.{option_and_then_some, same_Some, cond_some}
use Rattle.std.proofs.lemmas.List.{append_assoc, take-append-drop, get_or_append_left}
use Rattle.std.proofs.lemmas.List.Sums.{passes_at_first, position_or_len_is, AllPass-from_list_all}
use Rattle.std.proofs.lemmas.Str.{chars-IsAscii, chars_from_encodes, chars_past_char, encodes-chars, encodes-IsAscii, IsCharBoundary-before_ascii, IsUtf8-drop, IsUtf8-take}
use Rattle.std.proofs.lemmas.Str.Ascii.{IsAscii-from_all}
use Rattle.std.proofs.lemmas.Str.Pattern.{drop_at_char}
use Rattle.std.proofs.Math.Seq.{drop-cons, take-append_seam, drop-append-add, get_or-append_seam}
use Rattle.cookie_ron.specs.Grammar.{escaped_by, HasHexValue, CharForm}
use Rattle.cookie_ron.specs.RonInput.{hex_value, byte_at, code_of, brace_in, in_braces, code_at, escape_at, char_at}
use Rattle.cookie_ron.proofs.Chars.{cut_chars}
use Rattle.cookie_ron.proofs.Fronts.{Front, Takes}
use Rattle.cookie_ron.proofs.Powers.{hex_is, is_hex}

if_some : {A : Type 0} (b : Bool) (o : Option A) (r : A) → (if b then o else None) ≡ Some r → (b ≡ true) × (o ≡ Some r)
if_some true o r e = (refl, e)
if_some false o r e = cc

pub map_some : {A B : Type 0} (f : A → B) (o : Option A) (b : B) → option_map f o ≡ Some b → (a : A) × (o ≡ Some a) × (f a ≡ b)
map_some f None b e = cc
map_some f (Some a) b e = (a, refl, same_Some (f a) b e)

is_same : (c d : ℕ) → (c == d) ≡ true → c ≡ d
is_same c d h = (Decides-eqb c d).0 h

not_same : (c d : ℕ) → c ≢ d → (c == d) ≡ false
not_same c d h = grind (arith, nat_tests)

-- ---- hexadecimal digits

hex_sound : (digits : List ℕ) (value : ℕ) → hex_value digits ≡ Some value → HasHexValue value digits
hex_sound digits value e =
    let h = if_some (list_all is_ascii_hexdigit digits) (Some (digits_value 16 digits)) value e in
    (h.0, same_Some (digits_value 16 digits) value h.1)

hex_complete : (digits : List ℕ) (value : ℕ) → HasHexValue value digits → hex_value digits ≡ Some value
hex_complete digits value (all, is) = rw all (ap Some is)

-- ---- two hexadecimal digits

byte_sound : (s rest : List ℕ) (c : ℕ) → byte_at s ≡ Some (c, rest)
    → (digits : List ℕ) × (s ≡ digits ++ rest) × (length digits ≡ 2) × HasHexValue c digits
byte_sound [] rest c e = cc
byte_sound (a ∷ []) rest c e = cc
byte_sound (a ∷ b ∷ s) rest c e =
    let h = map_some (λ value. (value, s)) (hex_value (a ∷ b ∷ [])) (c, rest) e in
    (a ∷ b ∷ [], ap (λ p. a ∷ b ∷ p.1) h.2, refl, subst (λ v. HasHexValue v (a ∷ b ∷ [])) (ap (λ p. p.0) h.2) (hex_sound (a ∷ b ∷ []) h.0 h.1))

byte_complete : (digits rest : List ℕ) (c : ℕ) → length digits ≡ 2 → HasHexValue c digits → byte_at (digits ++ rest) ≡ Some (c, rest)
byte_complete [] rest c two is = cc
byte_complete (a ∷ []) rest c two is = absurd (omega (arith, two))
byte_complete (a ∷ b ∷ []) rest c two is = ap (option_map (λ value. (value, rest))) (hex_complete (a ∷ b ∷ []) c is)
byte_complete (a ∷ b ∷ d ∷ s) rest c two is = absurd (omega (arith, two))

sixteens : (a b : ℕ) → (0 * 16 + a) * 16 + b ≡ a * 16 + b
sixteens a b = omega arith

pub two_digits : (c d : ℕ) (rest : List ℕ) → digit_value c < 16 → digit_value d < 16
    → byte_at (c ∷ d ∷ rest) ≡ Some (digit_value c * 16 + digit_value d, rest)
two_digits c d rest hc hd =
    byte_complete (c ∷ d ∷ []) rest (digit_value c * 16 + digit_value d) refl
    (and_from (is_ascii_hexdigit c) (is_ascii_hexdigit d && true) (is_hex c hc) (and_from (is_ascii_hexdigit d) true (is_hex d hd) refl), sixteens (digit_value c) (digit_value d))

not_hex : (c : ℕ) → ¬ (digit_value c < 16) → is_ascii_hexdigit c ≡ false
not_hex c other = false_from_ne_true (is_ascii_hexdigit c) (λ h. other (hex_is c h))

not_two : (c d : ℕ) (rest : List ℕ) → list_all is_ascii_hexdigit (c ∷ d ∷ []) ≡ false → byte_at (c ∷ d ∷ rest) ≡ None
not_two c d rest e = ap (λ b. option_map (λ value. (value, rest)) (if b then Some (digits_value 16 (c ∷ d ∷ [])) else None)) e

pub no_first_digit : (c d : ℕ) (rest : List ℕ) → ¬ (digit_value c < 16) → byte_at (c ∷ d ∷ rest) ≡ None
no_first_digit c d rest other = not_two c d rest (and_left (is_ascii_hexdigit c) (is_ascii_hexdigit d && true) (not_hex c other))

pub no_second_digit : (c d : ℕ) (rest : List ℕ) → ¬ (digit_value d < 16) → byte_at (c ∷ d ∷ rest) ≡ None
no_second_digit c d rest other = not_two c d rest (and_right (is_ascii_hexdigit c) (is_ascii_hexdigit d && true) (and_left (is_ascii_hexdigit d) true (not_hex d other)))

-- ---- braces

brace_sound : (s : List ℕ) (end : ℕ) → brace_in s ≡ Some end → s ≡ take end s ++ 125 ∷ drop (end + 1) s
unfolding brace_in
brace_sound s end e =
    let p : ℕ → Bool = λ c. c == 125 in
    let h = cond_some (ltb (position_or_len p s) (length s)) (position_or_len p s) end e in
    let lt : position_or_len p s < length s = ltb-true (position_or_len p s) (length s) h.0 in
    let is_end = h.1 in
    let there : get_or s (position_or_len p s) 0 ≡ 125 = is_same _ 125 (passes_at_first p s 0 lt) in
    let below : end < length s = subst (λ i. i < length s) is_end lt in
    let here : get_or s end 0 ≡ 125 = subst (λ i. get_or s i 0 ≡ 125) is_end there in
    sym (take-append-drop end s)
    ∙ ap (λ t. take end s ++ t) (drop-cons s end 0 below)
    ∙ ap (λ c. take end s ++ c ∷ drop (suc end) s) here
    ∙ ap (λ i. take end s ++ 125 ∷ drop i s) (sym (add-one end))

hex_no_brace : (c : ℕ) → is_ascii_hexdigit c ≡ true → (c == 125) ≡ false
hex_no_brace c h = grind (arith, nat_tests)

-- no character passes the test, at any place
none_at : (p : ℕ → Bool) (cs : List ℕ) (k : ℕ) → NonePass p cs → k < length cs → p (get_or cs k 0) ≡ false
none_at p [] k none lt = absurd (omega (arith, lt))
none_at p (c ∷ cs) zero none lt = none.0
none_at p (c ∷ cs) (suc k) none lt = none_at p cs k none.1 (omega (arith, lt))

brace_complete : (digits rest : List ℕ) → NonePass (λ c. c == 125) digits → brace_in (digits ++ 125 ∷ rest) ≡ Some (length digits)
unfolding brace_in
brace_complete digits rest none =
    let p : ℕ → Bool = λ c. c == 125 in
    let s : List ℕ = digits ++ 125 ∷ rest in
    let fits : length digits < length s = simp length-append (omega arith) in
    let at : position_or_len p s ≡ length digits =
    position_or_len_is p s (length digits) 0 (omega arith)
    (λ k lt. ap p (get_or_append_left digits (125 ∷ rest) 0 k lt) ∙ none_at p digits k none lt)
    (λ _. ap p (get_or-append_seam digits 125 rest 0))
    in
    ap (λ i. cond (ltb i (length s)) (Some i) None) at
    ∙ ap (λ b. cond b (Some (length digits)) None) (lt-ltb (length digits) (length s) fits)

-- an input with a closing brace
pub braces_complete : (digits rest : List ℕ) → NonePass (λ c. c == 125) digits → in_braces (digits ++ 125 ∷ rest) ≡ Some (digits, rest)
unfolding in_braces
braces_complete digits rest none =
    let s : List ℕ = digits ++ 125 ∷ rest in
    ap (option_map (λ i. (take i s, drop (i + 1) s))) (brace_complete digits rest none)
    ∙ ap (λ front. Some (front, drop (length digits + 1) s)) (take-append_seam digits (125 ∷ rest))
    ∙ ap (λ behind. Some (digits, behind)) (drop-append-add digits (125 ∷ rest) 1)

-- an input without one
pub no_braces : (s : List ℕ) → NonePass (λ c. c == 125) s → in_braces s ≡ None
unfolding in_braces brace_in
no_braces s none =
    let p : ℕ → Bool = λ c. c == 125 in
    let end = position_or_len p s in
    let past : ltb end (length s) ≡ false = false_from_ne_true (ltb end (length s)) (λ h.
    let within = ltb-true end (length s) h in both_ways (p (get_or s end 0)) (none_at p s end none within) (passes_at_first p s 0 within))
    in
    ap (λ b. option_map (λ i. (take i s, drop (i + 1) s)) (cond b (Some end) None)) past

-- an input, split at its first closing brace
pub braces_read : (input : List ℕ) (r : Option (Bor (List ℕ) × Bor (List ℕ))) → IsUtf8 input
    → MatchOption r (FindsChar 125 input None) (λ x. SplitsAroundMatch (FindsChar 125) input x.0.now x.1.now)
    → option_map (λ p. (chars p.0.now, chars p.1.now)) r ≡ in_braces (chars input)
braces_read input None utf8 lacks =
    let is : chars input ≡ lacks.0 = sym (chars_from_encodes lacks.0 input utf8 lacks.1) in
    sym (ap in_braces is ∙ no_braces lacks.0 lacks.2)
braces_read input (Some x) utf8 found =
    let i = found.0 in
    let rest = drop found.1 input in
    let at : HasCharAt 125 input i found.1 = found.2.1 in
    let brace : drop i input ≡ 125 ∷ rest = drop_at_char 125 input i found.1 at (omega arith) in
    let within : i < length input = omega (arith, length-drop i input, ap length brace) in
    let byte : get_or input i 0 ≡ 125 = at.byte (omega arith) in
    let boundary : IsCharBoundary input i = IsCharBoundary-before_ascii input i within (omega (arith, byte)) in
    let digits : found.2.0.0 ≡ chars (take i input) = chars_from_encodes found.2.0.0 (take i input) (IsUtf8-take input i utf8 boundary) found.2.0.1 in
    let none : NonePass (λ c. c == 125) (chars (take i input)) = subst (λ cs. NonePass (λ c. c == 125) cs) digits found.2.0.2 in
    let whole : chars input ≡ chars (take i input) ++ 125 ∷ chars rest =
    cut_chars input i utf8 boundary
    ∙ ap (λ t. chars (take i input) ++ t) (chars_past_char (drop i input) rest 125 (IsUtf8-drop input i utf8 boundary) at.split)
    in
    ap (λ t. Some (chars t, chars x.1.now)) found.3 ∙ ap (λ t. Some (chars (take i input), chars t)) found.4
    ∙ sym (ap in_braces whole ∙ braces_complete (chars (take i input)) (chars rest) none)

hex_none : (digits : List ℕ) → list_all is_ascii_hexdigit digits ≡ true → NonePass (λ c. c == 125) digits
hex_none [] all = tt
hex_none (c ∷ cs) all =
    let both = and_parts (is_ascii_hexdigit c) (list_all is_ascii_hexdigit cs) all in (hex_no_brace c both.0, hex_none cs both.1)

-- ---- one to six hexadecimal digits in braces

code_of_sound : (digits : List ℕ) (c : ℕ) → code_of digits ≡ Some c
    → (1 ≤ length digits) × (length digits ≤ 6) × HasHexValue c digits × IsScalar c
code_of_sound digits c e =
    let few = if_some (nat_le 1 (length digits) && nat_le (length digits) 6) _ c e in
    let from : 1 ≤ length digits = grind (arith, nat_tests, few.0) in
    let to : length digits ≤ 6 = grind (arith, nat_tests, few.0) in
    option_and_then_some _ (hex_value digits) c few.1 (λ value is e1.
    let one = if_some (scalar value) (Some value) c e1 in
    let same = same_Some value c one.1 in
    (from, to, subst (λ v. HasHexValue v digits) same (hex_sound digits value is), subst (λ v. scalar v ≡ true) same one.0))

code_of_complete : (digits : List ℕ) (c : ℕ) → 1 ≤ length digits → length digits ≤ 6 → HasHexValue c digits → IsScalar c → code_of digits ≡ Some c
code_of_complete digits c from to is scalar_c =
    let low : nat_le 1 (length digits) ≡ true = grind (arith, nat_tests) in
    let high : nat_le (length digits) 6 ≡ true = grind (arith, nat_tests) in
    rw (low, high, hex_complete digits c is, scalar_c) refl

none_either : {A : Type 0} (b : Bool) (o : Option A) → o ≡ None → (if b then o else None) ≡ None
none_either true o e = e
none_either false o e = refl

no_code : (digits : List ℕ) → list_all is_ascii_hexdigit digits ≡ false → code_of digits ≡ None
no_code digits e = none_either (nat_le 1 (length digits) && nat_le (length digits) 6) _ (rw e refl)

hex_low : (c : ℕ) → is_ascii_hexdigit c ≡ true → c < 128
hex_low c h = grind (arith, nat_tests)

hex_ascii : (s : List ℕ) → list_all is_ascii_hexdigit s ≡ true → IsAscii s
hex_ascii s all = IsAscii-from_all s (λ k d lt. hex_low (get_or s k d) (AllPass-from_list_all is_ascii_hexdigit s all k d lt))

-- the bytes stand for their characters
pub code_of_bytes : (bs : List ℕ) → IsUtf8 bs → code_of (chars bs) ≡ code_of bs
code_of_bytes bs utf8 = by_hex (list_all is_ascii_hexdigit bs) refl
  where
    by_hex : (b : Bool) → list_all is_ascii_hexdigit bs ≡ b → code_of (chars bs) ≡ code_of bs
    by_hex true all = ap code_of (chars-IsAscii bs (hex_ascii bs all))
    by_hex false some =
        let other : list_all is_ascii_hexdigit (chars bs) ≡ false = false_from_ne_true (list_all is_ascii_hexdigit (chars bs)) (λ all.
        both_ways (list_all is_ascii_hexdigit bs) some
        (ap (list_all is_ascii_hexdigit) (sym (encodes-chars bs utf8) ∙ encodes-IsAscii (chars bs) (hex_ascii (chars bs) all)) ∙ all))
        in
        no_code (chars bs) other ∙ sym (no_code bs some)

code_sound : (s rest : List ℕ) (c : ℕ) → code_at s ≡ Some (c, rest)
    → (digits : List ℕ) × (s ≡ 123 ∷ (digits ++ 125 ∷ rest)) × (1 ≤ length digits) × (length digits ≤ 6) × HasHexValue c digits × IsScalar c
unfolding in_braces
code_sound [] rest c e = cc
code_sound (h ∷ s) rest c e =
    let open_is = if_some (h == 123) _ (c, rest) e in
    option_and_then_some _ (in_braces s) (c, rest) open_is.1 (λ braced braced_is e1.
    let end = map_some (λ i. (take i s, drop (i + 1) s)) (brace_in s) braced braced_is in
    let code = map_some (λ v. (v, braced.1)) (code_of braced.0) (c, rest) e1 in
    let sound = code_of_sound braced.0 c (code.1 ∙ ap (λ q. Some q.0) code.2) in (
      braced.0,
      ap (λ x. x ∷ s) (is_same h 123 open_is.0)
          ∙ ap (λ t. 123 ∷ t) (brace_sound s end.0 end.1)
          ∙ ap (λ q. 123 ∷ (q.0 ++ 125 ∷ q.1)) end.2
          ∙ ap (λ q. 123 ∷ (braced.0 ++ 125 ∷ q.1)) code.2,
      sound.0,
      sound.1,
      sound.2,
      sound.3,
    ))

code_complete : (digits rest : List ℕ) (c : ℕ) → 1 ≤ length digits → length digits ≤ 6 → HasHexValue c digits → IsScalar c
    → code_at (123 ∷ (digits ++ 125 ∷ rest)) ≡ Some (c, rest)
code_complete digits rest c from to is scalar_c =
    let read : List ℕ × List ℕ → Option (ℕ × List ℕ) = λ braced. option_map (λ v. (v, braced.1)) (code_of braced.0) in
    ap (option_and_then read) (braces_complete digits rest (hex_none digits is.0))
    ∙ ap (option_map (λ v. (v, rest))) (code_of_complete digits c from to is scalar_c)

-- an input whose braces have been read
pub code_read : (s rest digits behind : List ℕ) (code : Option ℕ) → s ≡ 123 ∷ rest → in_braces rest ≡ Some (digits, behind) → code_of digits ≡ code
    → code_at s ≡ option_map (λ v. (v, behind)) code
code_read s rest digits behind code is braced of =
    let read : List ℕ × List ℕ → Option (ℕ × List ℕ) = λ braced. option_map (λ v. (v, braced.1)) (code_of braced.0) in
    ap code_at is ∙ ap (option_and_then read) braced ∙ ap (option_map (λ v. (v, behind))) of

-- an input without a closing brace
pub code_unread : (s rest : List ℕ) → s ≡ 123 ∷ rest → in_braces rest ≡ None → code_at s ≡ None
code_unread s rest is none =
    let read : List ℕ × List ℕ → Option (ℕ × List ℕ) = λ braced. option_map (λ v. (v, braced.1)) (code_of braced.0) in
    ap code_at is ∙ ap (option_and_then read) none

-- an input without an opening brace
pub no_code_at : (s rest : List ℕ) (c : ℕ) → s ≡ c ∷ rest → c ≢ 123 → code_at s ≡ None
no_code_at s rest c is other = ap code_at is ∙ rw (not_same c 123 other) refl

-- ---- a character

choice : {A P : Type 0} (b : Bool) (x y r : A) → (if b then x else y) ≡ r → (b ≡ true → x ≡ r → P) → (b ≡ false → y ≡ r → P) → P
choice true x y r e f g = f refl e
choice false x y r e f g = g refl e

differ : (c d : ℕ) → (c == d) ≡ false → c ≢ d
differ c d h = grind (arith, nat_tests)

-- after a backslash
escape_sound : (s rest : List ℕ) (c : ℕ) → escape_at s ≡ Some (c, rest) → Front (CharForm c) (92 ∷ s) rest
escape_sound [] rest c e = cc
escape_sound (h ∷ s) rest c e =
    choice (h == 120) (byte_at s) _ (Some (c, rest)) e
    (λ is e1.
    let d = byte_sound s rest c e1 in
    record {
      front = 92 ∷ 120 ∷ d.0;
      is = ap (λ x. 92 ∷ x ∷ s) (is_same h 120 is) ∙ ap (λ t. 92 ∷ 120 ∷ t) d.1;
      holds = inr (inr (inl (d.0, refl, d.2, d.3)));
    })
    (λ _ e1. choice (h == 117) (code_at s) _ (Some (c, rest)) e1
    (λ is e2.
    let d = code_sound s rest c e2 in
    record {
      front = 92 ∷ 117 ∷ 123 ∷ (d.0 ++ 125 ∷ []);
      is = ap (λ x. 92 ∷ x ∷ s) (is_same h 117 is) ∙ ap (λ t. 92 ∷ 117 ∷ t) d.1
          ∙ ap (λ t. 92 ∷ 117 ∷ 123 ∷ t) (sym (append_assoc d.0 (125 ∷ []) rest));
      holds = inr (inr (inr (d.0, refl, d.2, d.3, d.4, d.5)));
    })
    (λ _ e2.
    let d = map_some (λ v. (v, s)) (escaped_by h) (c, rest) e2 in
    record {
      front = 92 ∷ h ∷ [];
      is = ap (λ q. 92 ∷ h ∷ q.1) d.2;
      holds = inr (inl (h, refl, d.1 ∙ ap (λ q. Some q.0) d.2));
    }))

pub char_front : (s rest : List ℕ) (c : ℕ) → char_at s ≡ Some (c, rest) → Front (CharForm c) s rest
char_front [] rest c e = cc
char_front (h ∷ s) rest c e =
    choice (h == 92) (escape_at s) _ (Some (c, rest)) e
    (λ is e1. subst (λ x. Front (CharForm c) (x ∷ s) rest) (sym (is_same h 92 is)) (escape_sound s rest c e1))
    (λ no_escape e1. choice (h == 34) None (Some (h, s)) (Some (c, rest)) e1
    (λ _ e2. cc)
    (λ no_quote e2.
    let same = same_Some (h, s) (c, rest) e2 in
    let is_c : h ≡ c = ap (λ q. q.0) same in
    record {
      front = h ∷ [];
      is = ap (λ q. h ∷ q.1) same;
      holds = inl (ap (λ x. x ∷ []) is_c, subst (λ x. x ≢ 34) is_c (differ h 34 no_quote), subst (λ x. x ≢ 92) is_c (differ h 92 no_escape));
    }))

none_some : (c : ℕ) → ◌≡◌ {A = Option ℕ} None (Some c) → ⊥
none_some c e = cc

no_letter : (letter other c : ℕ) → escaped_by other ≡ None → escaped_by letter ≡ Some c → (letter == other) ≡ false
no_letter letter other c none is = not_same letter other (λ same. none_some c (sym none ∙ ap escaped_by (sym same) ∙ is))

pub char_takes : (c : ℕ) → Takes (CharForm c) char_at (λ rest. (c, rest))
char_takes c = record {
  at = λ front rest form. elim form [
    | inl (is, no_quote, no_escape) ↦
        ap (λ f. char_at (f ++ rest)) is ∙ rw (not_same c 92 no_escape, not_same c 34 no_quote) refl
    | inr (inl (letter, is, by)) ↦
        ap (λ f. char_at (f ++ rest)) is
        ∙ rw (no_letter letter 120 c refl by, no_letter letter 117 c refl by) (ap (option_map (λ v. (v, rest))) by)
    | inr (inr (inl (digits, is, two, numbers))) ↦
        ap (λ f. char_at (f ++ rest)) is ∙ byte_complete digits rest c two numbers
    | inr (inr (inr (digits, is, from, to, numbers, scalar_c))) ↦
        ap (λ f. char_at (f ++ rest)) is
        ∙ ap (λ t. escape_at (117 ∷ 123 ∷ t)) (append_assoc digits (125 ∷ []) rest)
        ∙ code_complete digits rest c from to numbers scalar_c
  ];
}
