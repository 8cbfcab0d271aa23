-- Inputs, which are UTF-8, and their characters.
use Rattle.std.proofs.Common.{◌≡◌, ◌≢◌, ℕ, ◌<◌, ◌≤◌, List, [], ◌∷◌, ◌++◌, Bool, true, false, ◌||◌, ◌==◌, not, length, get_or, take, drop, Option, Some, None, ltb, length-take, add-zero, refl, sym, ap, subst, ◌∙◌, inl, inr, arith}
use Rattle.std.specs.Char.{is_ascii, encode_utf8}
use Rattle.std.specs.List.{list_all, position, position_or_len}
use Rattle.std.specs.Option.{unwrap_or}
use Rattle.std.specs.Str.{chars, encode_utf8_all, IsAscii, IsUtf8, IsCharBoundary, NonePass}
use Rattle.std.proofs.lemmas.Bool.{and_parts, both_ways, cases_lt, cond_both, false_from_ne_true, ltb-false, ltb-true, lt-ltb, not-false, not-true}
use Rattle.std.proofs.lemmas.Bool.Decides.{nat_tests}
use Rattle.std.proofs.lemmas.List.{get_or-drop, get_or-take, get_or_past, take-append-drop}
use Rattle.std.proofs.lemmas.List.Folds.{list_all-append}
use Rattle.std.proofs.lemmas.List.Sums.{AllPass-from_list_all, fails_before_first, list_all-from_AllPass, passes_at_first, prefix_len-le-length}
use Rattle.std.proofs.lemmas.Str.{byte_from_char, chars-IsAscii, chars-append, chars-nil, encode_ascii, encodes-IsAscii, encodes-append, encodes-chars, IsCharBoundary-before_ascii, IsCharBoundary-end, IsCharBoundary-from_take, IsUtf8-drop, IsUtf8-from_ascii, IsUtf8-take}
use Rattle.std.proofs.lemmas.Str.Ascii.{IsAscii-from_all}
use Rattle.cookie_ron.specs.Grammar.{is_blank}
use Rattle.cookie_ron.specs.RonInput.{behind, drop_blanks}
use Rattle.cookie_ron.proofs.SignFronts.{behind_front, behind_over, blanks_over}

pub all_ascii : (s : List ℕ) → list_all is_ascii s ≡ true → IsAscii s
all_ascii s all = IsAscii-from_all s (λ k d lt. ltb-true (get_or s k d) 128 (AllPass-from_list_all is_ascii s all k d lt))

-- ---- tokens

-- an input that begins with the bytes of a token
pub behind_read : (token input rest : List ℕ) → list_all is_ascii token ≡ true → input ≡ token ++ rest → behind token (chars input) ≡ Some (chars rest)
behind_read token input rest all is =
    let ascii = all_ascii token all in
    ap (λ s. behind token s) (ap chars is ∙ chars-append token rest (IsUtf8-from_ascii token ascii) ∙ ap (λ t. t ++ chars rest) (chars-IsAscii token ascii))
    ∙ behind_over token (chars rest)

-- an input that does not
pub behind_none : (token input : List ℕ) → list_all is_ascii token ≡ true → IsUtf8 input → ((rest : List ℕ) → input ≢ token ++ rest)
    → behind token (chars input) ≡ None
behind_none token input all utf8 lacks = by_rest (behind token (chars input)) refl
  where
    by_rest : (o : Option (List ℕ)) → behind token (chars input) ≡ o → o ≡ None
    by_rest None e = refl
    by_rest (Some rest) e = absurd (lacks (encode_utf8_all rest)
        (sym (encodes-chars input utf8) ∙ ap encode_utf8_all (behind_front token (chars input) rest e)
        ∙ encodes-append token rest ∙ ap (λ t. t ++ encode_utf8_all rest) (encodes-IsAscii token (all_ascii token all))))

-- ---- the first byte that passes a test

-- what is found, or else the length
pub found_or_len : (p : ℕ → Bool) (bs : List ℕ) → unwrap_or (position p bs) (length bs) ≡ position_or_len p bs
found_or_len p bs =
    let at_most : position_or_len p bs ≤ length bs = prefix_len-le-length (λ b. not (p b)) bs in
    cond_both (ltb (position_or_len p bs) (length bs)) (Some (position_or_len p bs)) None (λ o. unwrap_or o (length bs) ≡ position_or_len p bs)
    (λ _. refl)
    (λ e. let at_least : length bs ≤ position_or_len p bs = ltb-false (position_or_len p bs) (length bs) e in omega (arith, at_least, at_most))

-- the bytes before it
pub before_all : (p q : ℕ → Bool) → ((b : ℕ) → p b ≡ false → q b ≡ true) → (bs : List ℕ) → list_all q (take (position_or_len p bs) bs) ≡ true
before_all p q so bs =
    list_all-from_AllPass q (take (position_or_len p bs) bs) (λ k d lt.
    let before : k < position_or_len p bs = omega (arith, lt, length-take (position_or_len p bs) bs) in
    ap q (get_or-take (position_or_len p bs) bs k d before) ∙ so (get_or bs k d) (fails_before_first p bs k d before))

-- ---- blanks

blank_low : (c : ℕ) → is_blank c ≡ true → c < 128
blank_low c h = grind (arith, nat_tests)

blank_ascii : (c : ℕ) → not (is_blank c) ≡ false → is_ascii c ≡ true
blank_ascii c h = lt-ltb c 128 (blank_low c (not-false (is_blank c) h))

not_blank_stays : (cs : List ℕ) → is_blank (get_or (encode_utf8_all cs) 0 0) ≡ false → drop_blanks cs ≡ cs
not_blank_stays [] h = refl
not_blank_stays (c ∷ cs) h =
    let no : is_blank c ≡ false = false_from_ne_true (is_blank c) (λ yes.
    both_ways (is_blank c)
    (ap is_blank (sym (byte_from_char (encode_utf8_all (c ∷ cs)) (encode_utf8_all cs) c refl (blank_low c yes))) ∙ h) yes)
    in
    rw no refl

not_blank_at : (bs : List ℕ) → is_blank (get_or (drop (position_or_len (λ b. not (is_blank b)) bs) bs) 0 0) ≡ false
not_blank_at bs =
    let p : ℕ → Bool = λ b. not (is_blank b) in
    let i = position_or_len p bs in
    let here : get_or (drop i bs) 0 0 ≡ get_or bs i 0 = get_or-drop i bs 0 0 ∙ ap (λ k. get_or bs k 0) (add-zero i) in
    ap is_blank here ∙ (elim (cases_lt i (length bs)) [
      | inl within ↦ not-true (is_blank (get_or bs i 0)) (passes_at_first p bs 0 within)
      | inr past ↦ ap is_blank (get_or_past bs i 0 past)
    ])

-- the input may be cut where its first byte is that is no blank
pub blanks_boundary : (bs : List ℕ) → IsUtf8 bs → IsCharBoundary bs (position_or_len (λ b. not (is_blank b)) bs)
blanks_boundary bs utf8 =
    let p : ℕ → Bool = λ b. not (is_blank b) in
    let ascii : list_all is_ascii (take (position_or_len p bs) bs) ≡ true = before_all p is_ascii blank_ascii bs in
    IsCharBoundary-from_take bs (position_or_len p bs) utf8 (prefix_len-le-length (λ b. not (p b)) bs) (IsUtf8-from_ascii (take (position_or_len p bs) bs) (all_ascii (take (position_or_len p bs) bs) ascii))

-- the characters from there on
pub blanks_dropped : (bs : List ℕ) → IsUtf8 bs → chars (drop (position_or_len (λ b. not (is_blank b)) bs) bs) ≡ drop_blanks (chars bs)
blanks_dropped bs utf8 =
    let p : ℕ → Bool = λ b. not (is_blank b) in
    let i = position_or_len p bs in
    let front = take i bs in
    let rest = drop i bs in
    let ascii = all_ascii front (before_all p is_ascii blank_ascii bs) in
    let whole : chars bs ≡ front ++ chars rest =
    ap chars (sym (take-append-drop i bs)) ∙ chars-append front rest (IsUtf8-from_ascii front ascii) ∙ ap (λ t. t ++ chars rest) (chars-IsAscii front ascii)
    in
    let stays : drop_blanks (chars rest) ≡ chars rest =
    not_blank_stays (chars rest) (ap (λ t. is_blank (get_or t 0 0)) (encodes-chars rest (IsUtf8-drop bs i utf8 (blanks_boundary bs utf8))) ∙ not_blank_at bs)
    in
    sym (ap drop_blanks whole ∙ blanks_over front (chars rest) (before_all p is_blank (λ b e. not-false (is_blank b) e) bs) stays)

-- nothing is left of an input
pub end_test : (s : List ℕ) → IsUtf8 s → (length s == 0) ≡ (length (chars s) == 0)
end_test [] utf8 = ap (λ t. length t == 0) (sym chars-nil)
end_test (b ∷ bs) utf8 = by_chars (chars (b ∷ bs)) (encodes-chars (b ∷ bs) utf8)
  where
    by_chars : (cs : List ℕ) → encode_utf8_all cs ≡ b ∷ bs → (length (b ∷ bs) == 0) ≡ (length cs == 0)
    by_chars [] e = let none : [] ≡ b ∷ bs = e in cc
    by_chars (c ∷ cs) e = grind (arith, nat_tests)

-- ---- runs

end_low : (c : ℕ) → ((c == 34) || (c == 92)) ≡ true → c < 128
end_low c h = grind (arith, nat_tests)

-- the input may be cut before its first quote or backslash
pub run_boundary : (bs : List ℕ) → IsUtf8 bs → IsCharBoundary bs (position_or_len (λ c. (c == 34) || (c == 92)) bs)
run_boundary bs utf8 =
    let p : ℕ → Bool = λ c. (c == 34) || (c == 92) in
    let i = position_or_len p bs in
    elim (cases_lt i (length bs)) [
      | inl within ↦
          IsCharBoundary-before_ascii bs i within (end_low (get_or bs i 0) (passes_at_first p bs 0 within))
      | inr past ↦
          let at_most : position_or_len p bs ≤ length bs = prefix_len-le-length (λ b. not (p b)) bs in
          let at_end : length bs ≡ position_or_len p bs = omega (arith, past, at_most) in
          subst (λ k. IsCharBoundary bs k) at_end (IsCharBoundary-end bs)
    ]

none_pass : (p : ℕ → Bool) → ((c : ℕ) → p c ≡ true → c < 128) → (cs : List ℕ) → list_all (λ b. not (p b)) (encode_utf8_all cs) ≡ true → NonePass p cs
none_pass p low [] all = tt
none_pass p low (c ∷ cs) all =
    let q : ℕ → Bool = λ b. not (p b) in
    let both = and_parts (list_all q (encode_utf8 c)) (list_all q (encode_utf8_all cs)) (sym (list_all-append q (encode_utf8 c) (encode_utf8_all cs)) ∙ all) in
    let fails : p c ≡ false = false_from_ne_true (p c) (λ yes.
    both_ways (p c) (not-true (p c) ((and_parts (q c) true (sym (ap (list_all q) (encode_ascii c (low c yes))) ∙ both.0)).0)) yes)
    in
    (fails, none_pass p low cs both.1)

-- the characters before it
pub run_plain : (bs : List ℕ) → IsUtf8 bs → NonePass (λ c. (c == 34) || (c == 92)) (chars (take (position_or_len (λ c. (c == 34) || (c == 92)) bs) bs))
run_plain bs utf8 =
    let p : ℕ → Bool = λ c. (c == 34) || (c == 92) in
    let run = take (position_or_len p bs) bs in
    let spelled : encode_utf8_all (chars run) ≡ run = encodes-chars run (IsUtf8-take bs (position_or_len p bs) utf8 (run_boundary bs utf8)) in
    none_pass p end_low (chars run)
    (ap (list_all (λ b. not (p b))) spelled ∙ before_all p (λ b. not (p b)) (λ b e. ap not e) bs)

-- an input, cut where a character begins
pub cut_chars : (bs : List ℕ) (i : ℕ) → IsUtf8 bs → IsCharBoundary bs i → chars bs ≡ chars (take i bs) ++ chars (drop i bs)
cut_chars bs i utf8 boundary = ap chars (sym (take-append-drop i bs)) ∙ chars-append (take i bs) (drop i bs) (IsUtf8-take bs i utf8 boundary)
