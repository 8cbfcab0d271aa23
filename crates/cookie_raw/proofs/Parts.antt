-- Splitting at an ASCII character and trimming give UTF-8 slices of the string.
use Rattle.std.proofs.Common.{◌≡◌, ℕ, zero, suc, ◌+◌, ◌<◌, ◌≤◌, Bool, true, false, not, cond, ◌&&◌, eqb, List, [], ◌∷◌, ◌++◌, length, take, drop, get_or, refl, sym, ap, ◌∙◌, subst, ⊎_elim, arith}
use Rattle.std.specs.Prelude.{◌==◌}
use Rattle.std.specs.Char.{is_whitespace}
use Rattle.std.specs.List.{All, before_first, after_first, position_or_len, slice_split}
use Rattle.std.specs.Str.{IsUtf8, IsCharBoundary, chars, encode_utf8_all, all_scalars, skip_leading_whitespace, drop_trailing_whitespace, trim_start, trim_end, trim}
use Rattle.std.specs.Str.Iter.{HasSubslice}
use Rattle.std.proofs.Math.Utf8.{scalar}
use Rattle.std.proofs.lemmas.Bool.{eqb-true, cases_lt, and_parts}
use Rattle.std.proofs.lemmas.List.{append-nil, append_assoc, take-append-drop, drop_all, length-drop}
use Rattle.std.proofs.lemmas.List.Elements.{All-nil, All-cons, All-same, All-weaker}
use Rattle.std.proofs.lemmas.List.Splits.{slice_split_none, slice_split_first}
use Rattle.std.proofs.lemmas.List.Sums.{prefix_len-le-length, passes_at_first, fails_before_first}
use Rattle.std.proofs.lemmas.Str.{IsUtf8-nil, IsUtf8-take, IsUtf8-drop, IsCharBoundary-end, IsCharBoundary-before_ascii, IsCharBoundary-after_ascii, scalars-chars, encodes-chars, encodes-append}

-- a slice that is UTF-8
pub record IsPart (text part : List ℕ) : Type 0 where
  pub slice : HasSubslice text part
  pub utf8 : IsUtf8 part

-- a whole list is a slice of itself
pub itself_is_slice : (xs : List ℕ) → HasSubslice xs xs
itself_is_slice xs = ([], [], sym (append-nil xs))

-- a slice of a slice is one of the whole
pub slice_of_slice : (xs ys zs : List ℕ) → HasSubslice xs ys → HasSubslice ys zs → HasSubslice xs zs
slice_of_slice xs ys zs (a, b, outer) (c, d, inner) =
    (a ++ c, d ++ b, outer ∙ ap (λ m. a ++ (m ++ b)) inner ∙ simp append_assoc)

-- a prefix is a slice
pub take_is_slice : (n : ℕ) (xs : List ℕ) → HasSubslice xs (take n xs)
take_is_slice n xs = ([], drop n xs, sym (take-append-drop n xs))

-- a suffix is a slice
pub drop_is_slice : (n : ℕ) (xs : List ℕ) → HasSubslice xs (drop n xs)
drop_is_slice n xs = (take n xs, [], sym (ap (λ r. take n xs ++ r) (append-nil (drop n xs)) ∙ take-append-drop n xs))

-- a part of a part is one of the whole
part_of_part : (xs ys zs : List ℕ) → IsPart xs ys → IsPart ys zs → IsPart xs zs
part_of_part xs ys zs a b = record { slice = slice_of_slice xs ys zs a.slice b.slice; utf8 = b.utf8 }

-- what precedes the first ASCII character c
pub before_is_part : (c : ℕ) (xs : List ℕ) → c < 128 → IsUtf8 xs → IsPart xs (before_first (λ b. eqb b c) xs)
before_is_part c xs ascii utf8 =
    let n : ℕ = position_or_len (λ b. eqb b c) xs in
    let within : n ≤ length xs = prefix_len-le-length (λ b. not (eqb b c)) xs in
    let ends : IsCharBoundary xs n = ⊎_elim
    (λ (l : n < length xs). IsCharBoundary-before_ascii xs n l (omega (arith, eqb-true (get_or xs n 0) c (passes_at_first (λ b. eqb b c) xs 0 l))))
    (λ (l : length xs ≤ n). let e : length xs ≡ n = omega arith in subst (IsCharBoundary xs) e (IsCharBoundary-end xs))
    (cases_lt n (length xs)) in
    record { slice = take_is_slice n xs; utf8 = IsUtf8-take xs n utf8 ends }

-- what follows it
pub after_is_part : (c : ℕ) (xs : List ℕ) → c < 128 → IsUtf8 xs → IsPart xs (after_first (λ b. eqb b c) xs)
after_is_part c xs ascii utf8 =
    let n : ℕ = position_or_len (λ b. eqb b c) xs in
    let is_utf8 : IsUtf8 (drop (n + 1) xs) = ⊎_elim
    (λ (l : n < length xs). IsUtf8-drop xs (n + 1) utf8 (IsCharBoundary-after_ascii xs n utf8 l (omega (arith, eqb-true (get_or xs n 0) c (passes_at_first (λ b. eqb b c) xs 0 l)))))
    (λ (l : length xs ≤ n). subst IsUtf8 (sym (drop_all (n + 1) xs (omega arith))) IsUtf8-nil)
    (cases_lt n (length xs)) in
    record { slice = drop_is_slice (n + 1) xs; utf8 = is_utf8 }

-- a string that is not split is its only part
only_itself : (xs : List ℕ) → IsUtf8 xs → All (IsPart xs) (xs ∷ [])
only_itself xs utf8 =
    All-cons (IsPart xs) xs [] (record { slice = itself_is_slice xs; utf8 = utf8 }) (All-nil (IsPart xs))

-- the pieces of a string without c
uncut_parts : (c : ℕ) (xs : List ℕ) → IsUtf8 xs → length xs ≤ position_or_len (λ b. eqb b c) xs → All (IsPart xs) (slice_split (λ b. eqb b c) xs)
uncut_parts c xs utf8 l =
    All-same (IsPart xs) _ _ (slice_split_none (λ b. eqb b c) xs (λ k d h. fails_before_first (λ b. eqb b c) xs k d (omega arith))) (only_itself xs utf8)

-- the pieces of a string with c, if those of the rest are parts of the rest
cut_parts : (c : ℕ) (xs : List ℕ) → c < 128 → IsUtf8 xs → position_or_len (λ b. eqb b c) xs < length xs
    → All (IsPart (after_first (λ b. eqb b c) xs)) (slice_split (λ b. eqb b c) (after_first (λ b. eqb b c) xs))
    → All (IsPart xs) (slice_split (λ b. eqb b c) xs)
cut_parts c xs ascii utf8 l more =
    let rest : List ℕ = after_first (λ b. eqb b c) xs in
    let after = after_is_part c xs ascii utf8 in
    let widened = All-weaker (IsPart rest) (IsPart xs) (λ x h. part_of_part xs rest x after h) (slice_split (λ b. eqb b c) rest) more in
    let all = All-cons (IsPart xs) (before_first (λ b. eqb b c) xs) (slice_split (λ b. eqb b c) rest) (before_is_part c xs ascii utf8) widened in
    All-same (IsPart xs) _ _ (slice_split_first (λ b. eqb b c) xs 0 l) all

-- the pieces between ASCII characters c
pub pieces_are_parts : (c n : ℕ) (xs : List ℕ) → c < 128 → length xs ≤ n → IsUtf8 xs → All (IsPart xs) (slice_split (λ b. eqb b c) xs)
pieces_are_parts c zero xs ascii small utf8 = uncut_parts c xs utf8 (omega arith)
pieces_are_parts c (suc n) xs ascii small utf8 =
    let rest : List ℕ = after_first (λ b. eqb b c) xs in
    let shorter : position_or_len (λ b. eqb b c) xs < length xs → length rest ≤ n =
    λ l. omega (arith, length-drop (position_or_len (λ b. eqb b c) xs + 1) xs) in
    let after = after_is_part c xs ascii utf8 in
    ⊎_elim (λ l. cut_parts c xs ascii utf8 l (pieces_are_parts c n rest ascii (shorter l) after.utf8)) (λ l. uncut_parts c xs utf8 l)
    (cases_lt (position_or_len (λ b. eqb b c) xs) (length xs))

-- one character more, white space or not
start_of : (c : ℕ) (cs : List ℕ) (is_white : Bool) → (front : List ℕ) × (cs ≡ front ++ skip_leading_whitespace cs)
    → (front : List ℕ) × (c ∷ cs ≡ front ++ cond is_white (skip_leading_whitespace cs) (c ∷ cs))
start_of c cs true (front, e) = (c ∷ front, ap (λ l. c ∷ l) e)
start_of c cs false skipped = ([], refl)

-- the characters trimmed from the start
without_start : (cs : List ℕ) → (front : List ℕ) × (cs ≡ front ++ skip_leading_whitespace cs)
without_start [] = ([], refl)
without_start (c ∷ cs) = start_of c cs (is_whitespace c) (without_start cs)

-- one character more, trimmed or not
end_of : (c : ℕ) (cs : List ℕ) (is_dropped : Bool) → (back : List ℕ) × (cs ≡ drop_trailing_whitespace cs ++ back)
    → (back : List ℕ) × (c ∷ cs ≡ cond is_dropped [] (c ∷ drop_trailing_whitespace cs) ++ back)
end_of c cs true kept = (c ∷ cs, refl)
end_of c cs false (back, e) = (back, ap (λ l. c ∷ l) e)

-- the characters trimmed from the end
without_end : (cs : List ℕ) → (back : List ℕ) × (cs ≡ drop_trailing_whitespace cs ++ back)
without_end [] = ([], refl)
without_end (c ∷ cs) = end_of c cs (is_whitespace c && length (drop_trailing_whitespace cs) == 0) (without_end cs)

-- two tests that both hold
both_hold : (x y : Bool) → x ≡ true → y ≡ true → (x && y) ≡ true
both_hold true y h k = k
both_hold false y h k = h

-- if all are characters, those of both halves are
scalars_of : (xs ys : List ℕ) → all_scalars (xs ++ ys) ≡ true → (all_scalars xs ≡ true) × (all_scalars ys ≡ true)
scalars_of [] ys h = (refl, h)
scalars_of (x ∷ xs) ys h =
    let first = and_parts (scalar x) (all_scalars (xs ++ ys)) h in
    let rest = scalars_of xs ys first.1 in
    (both_hold (scalar x) (all_scalars xs) first.0 rest.0, rest.1)

-- a run of characters of a string
characters_are_part : (text front middle back : List ℕ) → IsUtf8 text → chars text ≡ front ++ (middle ++ back) → IsPart text (encode_utf8_all middle)
characters_are_part text front middle back utf8 e =
    let scalars = subst (λ cs. all_scalars cs ≡ true) e (scalars-chars text utf8) in
    record {
      slice = (
        encode_utf8_all front,
        encode_utf8_all back,
        sym (encodes-chars text utf8) ∙ ap encode_utf8_all e ∙ encodes-append front (middle ++ back)
            ∙ ap (λ r. encode_utf8_all front ++ r) (encodes-append middle back),
      );
      utf8 = (middle, ((scalars_of middle back (scalars_of front (middle ++ back) scalars).1).0, refl));
    }

-- a string trimmed at its start
trim_start_is_part : (xs : List ℕ) → IsUtf8 xs → IsPart xs (trim_start xs)
unfolding trim_start
trim_start_is_part xs utf8 =
    let skipped = without_start (chars xs) in
    characters_are_part xs skipped.0 (skip_leading_whitespace (chars xs)) [] utf8
    (skipped.1 ∙ ap (λ l. skipped.0 ++ l) (sym (append-nil (skip_leading_whitespace (chars xs)))))

-- a string trimmed at its end
trim_end_is_part : (xs : List ℕ) → IsUtf8 xs → IsPart xs (trim_end xs)
unfolding trim_end
trim_end_is_part xs utf8 =
    let dropped = without_end (chars xs) in
    characters_are_part xs [] (drop_trailing_whitespace (chars xs)) dropped.0 utf8 dropped.1

-- a string trimmed at both ends
pub trim_is_part : (xs : List ℕ) → IsUtf8 xs → IsPart xs (trim xs)
trim_is_part xs utf8 =
    let start = trim_start_is_part xs utf8 in
    part_of_part xs (trim_start xs) (trim xs) start (trim_end_is_part (trim_start xs) start.utf8)
