-- The lines of bytes that are partly in the buffer.
use Rattle.std.proofs.Common.{◌≡◌, ℕ, ◌+◌, ◌<◌, false, eqb, List, [], ◌∷◌, ◌++◌, Some, None, length, get_or, take, drop, position, sym, ap, ◌∙◌, refl, append_assoc, take-append-drop, arith, drop-cons, add-one}
use Rattle.std.specs.List.{slice_split, All}
use Rattle.std.specs.Str.Lines.{lines_of_parts, strip_carriage_return}
use Rattle.std.proofs.lemmas.List.{get_or-take, length-take}
use Rattle.std.proofs.lemmas.List.Sums.{fails_before_first}
use Rattle.std.proofs.lemmas.List.Splits.{slice_split_at, slice_split_none, length-slice_split}
use Rattle.std.proofs.lemmas.List.Quantifiers.{position-Some}
use Rattle.cookie_device.specs.LineBuffers.{EndsLine, IsLastLine}
use Rattle.cookie_device.proofs.Scanning.{length-none}

-- the line feed that was found, and the bytes before and after it
line-split : (bytes : List ℕ) (end : ℕ) → position (λ b. eqb b 10) bytes ≡ Some end → bytes ≡ take end bytes ++ get_or bytes end 0 ∷ drop (end + 1) bytes
line-split bytes end found =
    let inside : end < length bytes = (position-Some (λ b. eqb b 10) bytes end 0 found).0 in
    sym (take-append-drop end bytes) ∙ ap (λ l. take end bytes ++ l) (rw add-one (drop-cons bytes end 0 inside))

-- no line feed precedes the first one
none-before : (bytes : List ℕ) (end : ℕ) → position (λ b. eqb b 10) bytes ≡ Some end → All (λ b. eqb b 10 ≡ false) (take end bytes)
none-before bytes end found = λ k d low.
    let before : k < end = omega (arith, simp length-take at low) in
    rw (get_or-take end bytes k d before) ((position-Some (λ b. eqb b 10) bytes end d found).2 k before)

-- the line that was found is the first piece, whatever follows the buffer
slice_split-line : (bytes more : List ℕ) (end : ℕ) → position (λ b. eqb b 10) bytes ≡ Some end
    → slice_split (λ b. eqb b 10) (bytes ++ more) ≡ take end bytes ∷ slice_split (λ b. eqb b 10) (drop (end + 1) bytes ++ more)
slice_split-line bytes more end found =
    let feed = (position-Some (λ b. eqb b 10) bytes end 0 found).1 in
    let split = ap (λ l. l ++ more) (line-split bytes end found) ∙ append_assoc (take end bytes) (get_or bytes end 0 ∷ drop (end + 1) bytes) more in
    ap (slice_split (λ b. eqb b 10)) split ∙ slice_split_at (λ b. eqb b 10) (take end bytes) (get_or bytes end 0) (drop (end + 1) bytes ++ more) (none-before bytes end found) feed

-- bytes without a line feed are one piece
slice_split-last : (bytes : List ℕ) → position (λ b. eqb b 10) bytes ≡ None → slice_split (λ b. eqb b 10) bytes ≡ bytes ∷ []
slice_split-last bytes none = slice_split_none (λ b. eqb b 10) bytes (λ k d inside. fails_before_first (λ b. eqb b 10) bytes k d (let far = length-none _ _ none in omega arith))

-- a piece that another follows is a line, without the carriage return at its end
lines_of_parts-cons : (x : List ℕ) (parts : List (List ℕ)) → 0 < length parts → lines_of_parts (x ∷ parts) ≡ strip_carriage_return x ∷ lines_of_parts parts
lines_of_parts-cons x [] some = absurd (omega arith)
lines_of_parts-cons x (y ∷ more) some = refl

-- the line that was found comes first, whatever follows the buffer
pub EndsLine-found : (bytes : List ℕ) (end : ℕ) → position (λ b. eqb b 10) bytes ≡ Some end → EndsLine bytes end
EndsLine-found bytes end found = λ more.
    let pieces = slice_split (λ b. eqb b 10) (drop (end + 1) bytes ++ more) in
    ap lines_of_parts (slice_split-line bytes more end found)
    ∙ lines_of_parts-cons (take end bytes) pieces (omega (arith, length-slice_split (λ b. eqb b 10) (drop (end + 1) bytes ++ more)))

-- bytes without a line feed are the last line, or none if they are empty
pub IsLastLine-none : (bytes : List ℕ) → position (λ b. eqb b 10) bytes ≡ None → IsLastLine bytes
IsLastLine-none bytes none = ap lines_of_parts (slice_split-last bytes none)
