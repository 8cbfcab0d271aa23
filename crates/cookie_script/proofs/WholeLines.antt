-- The bytes that were consumed are whole lines.
use Rattle.std.proofs.Common.{◌≡◌, ◌∙◌, ℕ, ◌+◌, ◌-◌, ◌<◌, ◌≤◌, false, eqb, not, List, [], ◌∷◌, ◌++◌, None, Some, length, get_or, take, drop, position, refl, sym, ap, cond, ltb, arith, append_assoc, length-append, take-append-drop, drop-cons, add-one}
use Rattle.std.specs.List.{All, slice_split, suffix_len}
use Rattle.std.specs.Str.Lines.{lines, lines_of_parts, strip_carriage_return}
use Rattle.std.proofs.Math.ListN.{get_or-append}
use Rattle.std.proofs.Math.Seq.{get_or-append_right, get_or-append_seam, take-append_seam}
use Rattle.std.proofs.lemmas.Bool.{eqb-true}
use Rattle.std.proofs.lemmas.Bool.Decides.{nat_tests}
use Rattle.std.proofs.lemmas.List.{get_or-take, length-take}
use Rattle.std.proofs.lemmas.List.Quantifiers.{position-Some}
use Rattle.std.proofs.lemmas.List.Splits.{length-slice_split, slice_split_at}
use Rattle.std.proofs.lemmas.List.Sums.{fails_before_first, suffix_len_is}
use Rattle.cookie_script.specs.Progress.{whole_lines}

-- these bytes are these lines, each with its line feed, whatever follows them
pub record WholeLines (bytes : List ℕ) (passed : List (List ℕ)) : Type 0 where
  pub cut : (part : List ℕ) → position (λ b. eqb b 10) part ≡ None → whole_lines (bytes ++ part) ≡ bytes
  pub are : (more : List ℕ) → lines (bytes ++ more) ≡ passed ++ lines more

length-none : (n len : ℕ) → cond (ltb n len) (Some n) None ≡ None → len ≤ n
length-none n len none = grind (arith, nat_tests)

-- what follows the last line feed is cut off
cut_behind : (front part : List ℕ) → (0 < length front → get_or front (length front - 1) 0 ≡ 10)
    → position (λ b. eqb b 10) part ≡ None → whole_lines (front ++ part) ≡ front
cut_behind front part ends none =
    let p = λ (b : ℕ). not (eqb b 10) in
    let far = length-none _ _ none in
    let size : length (front ++ part) ≡ length front + length part = length-append front part in
    let behind : suffix_len p (front ++ part) ≡ length (front ++ part) - length front
    = suffix_len_is p (front ++ part) (length front) 0 (omega (arith, size))
    (λ k low high.
    rw (get_or-append_right front part k 0 low, fails_before_first (λ b. eqb b 10) part (k - length front) 0 (omega (arith, size, far))) refl)
    (λ some. let inside : length front - 1 < length front = omega arith in rw (get_or-append front part 0 (length front - 1) inside, ends some) refl) in
    let left : length (front ++ part) - suffix_len p (front ++ part) ≡ length front = omega (arith, behind, size) in
    ap (λ n. take n (front ++ part)) left ∙ take-append_seam front part

-- no bytes are no lines
pub no_lines : WholeLines [] []
no_lines = record { cut = λ part none. cut_behind [] part (λ some. absurd (omega arith)) none; are = λ more. refl }

-- a piece before another is a line, without the carriage return at its end
lines_of_parts-cons : (x : List ℕ) (parts : List (List ℕ)) → 0 < length parts → lines_of_parts (x ∷ parts) ≡ strip_carriage_return x ∷ lines_of_parts parts
lines_of_parts-cons x [] some = absurd (omega arith)
lines_of_parts-cons x (y ∷ more) some = refl

-- a line with its line feed comes first, whatever follows it
line_first : (line more : List ℕ) → All (λ b. eqb b 10 ≡ false) line
    → lines ((line ++ 10 ∷ []) ++ more) ≡ strip_carriage_return line ∷ lines more
line_first line more no_feed =
    ap lines (append_assoc line (10 ∷ []) more)
    ∙ ap lines_of_parts (slice_split_at (λ b. eqb b 10) line 10 more no_feed refl)
    ∙ lines_of_parts-cons line (slice_split (λ b. eqb b 10) more) (omega (arith, length-slice_split (λ b. eqb b 10) more))

-- there is no line feed before the first one
none_before : (bytes : List ℕ) (end : ℕ) → position (λ b. eqb b 10) bytes ≡ Some end → All (λ b. eqb b 10 ≡ false) (take end bytes)
none_before bytes end found = λ k d low.
    let before : k < end = omega (arith, simp length-take at low) in
    rw (get_or-take end bytes k d before) ((position-Some (λ b. eqb b 10) bytes end d found).2 k before)

-- one more line is consumed
pub one_more : (gone bytes : List ℕ) (passed : List (List ℕ)) (end : ℕ) → WholeLines gone passed → position (λ b. eqb b 10) bytes ≡ Some end
    → WholeLines (gone ++ (take end bytes ++ 10 ∷ [])) (passed ++ strip_carriage_return (take end bytes) ∷ [])
one_more gone bytes passed end whole found =
    let line = take end bytes in
    let last : gone ++ (line ++ 10 ∷ []) ≡ (gone ++ line) ++ 10 ∷ [] = sym (append_assoc gone line (10 ∷ [])) in
    let size : length ((gone ++ line) ++ 10 ∷ []) ≡ length (gone ++ line) + 1 = length-append (gone ++ line) (10 ∷ []) in
    record {
      cut = λ part none.
          cut_behind (gone ++ (line ++ 10 ∷ [])) part
          (λ some.
          let at : length ((gone ++ line) ++ 10 ∷ []) - 1 ≡ length (gone ++ line) = omega (arith, size) in
          ap (λ xs. get_or xs (length xs - 1) 0) last ∙ ap (λ k. get_or ((gone ++ line) ++ 10 ∷ []) k 0) at
          ∙ get_or-append_seam (gone ++ line) 10 [] 0) none;
      are = λ more.
          ap lines (append_assoc gone (line ++ 10 ∷ []) more) ∙ whole.are ((line ++ 10 ∷ []) ++ more)
          ∙ ap (λ ls. passed ++ ls) (line_first line more (none_before bytes end found))
          ∙ sym (append_assoc passed (strip_carriage_return line ∷ []) (lines more));
    }

-- the line that was found, its line feed, and what follows it
pub line_cut : (bytes : List ℕ) (end : ℕ) → position (λ b. eqb b 10) bytes ≡ Some end → bytes ≡ (take end bytes ++ 10 ∷ []) ++ drop (end + 1) bytes
line_cut bytes end found =
    let (inside, feed, before) = position-Some (λ b. eqb b 10) bytes end 0 found in
    let is : get_or bytes end 0 ≡ 10 = eqb-true (get_or bytes end 0) 10 feed in
    sym (take-append-drop end bytes) ∙ ap (λ xs. take end bytes ++ xs) (rw add-one (drop-cons bytes end 0 inside))
    ∙ ap (λ b. take end bytes ++ b ∷ drop (end + 1) bytes) is ∙ sym (append_assoc (take end bytes) (10 ∷ []) (drop (end + 1) bytes))
