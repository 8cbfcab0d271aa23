-- Visiting the lines of a `cookies.txt` file with their numbers, where malformed lines are left out.
use Rattle.std.proofs.Common.{◌≡◌, ℕ, suc, ◌+◌, ◌<◌, ◌⊎◌, inl, inr, Bool, true, false, List, [], ◌∷◌, ◌++◌, length, take, drop, get_or, Option, Some, None, is_none, unwrap_or, refl, sym, ap, ◌∙◌, arith, if◌then◌else◌, OnErr, Result, Ok, Err}
use Rattle.std.specs.List.{cons_option, enumerate_from}
use Rattle.std.specs.Str.Lines.{lines}
use Rattle.std.proofs.lemmas.List.{length-append}
use Rattle.cookie_parts.specs.Cookie.{Row}
use Rattle.cookie_netscape.specs.Files.{FailsAtLine, cookie_of_line, is_malformed, malformed_from, well_formed_rows}
use Rattle.cookie_netscape.specs.Lines.{line_cookie}
use Rattle.cookie_netscape.specs.declared.error.NetscapeError.{NetscapeError}
use Rattle.cookie_netscape.specs.declared.error.NetscapeError.TheVariants.{BadLine, Io, Memory, NotUtf8, Unrepresentable}
use Rattle.cookie_serde.specs.NetscapeLists.{HasCookieOrMalformed}
use Rattle.cookie_serde.proofs.NumberedLines.{at_next}

-- a row in front stays in front
row_in_front : (first : Option Row) (rows more : List Row) → cons_option first (rows ++ more) ≡ cons_option first rows ++ more
row_in_front None rows more = refl
row_in_front (Some first) rows more = refl

-- the cookies of more lines come last
rows_append : (before after : List (List ℕ)) → well_formed_rows (before ++ after) ≡ well_formed_rows before ++ well_formed_rows after
rows_append [] after = refl
rows_append (line ∷ before) after =
    ap (cons_option (cookie_of_line line)) (rows_append before after)
    ∙ row_in_front (cookie_of_line line) (well_formed_rows before) (well_formed_rows after)

-- a number in front stays in front
number_in_front : (is_bad : Bool) (number : ℕ) (all before after : List ℕ) → all ≡ before ++ after
    → (if is_bad then number ∷ all else all) ≡ (if is_bad then number ∷ before else before) ++ after
number_in_front true number all before after is = ap (λ numbers. number ∷ numbers) is
number_in_front false number all before after is = is

-- the numbers of more lines come last
malformed_append : (number : ℕ) (before after : List (List ℕ))
    → malformed_from number (before ++ after) ≡ malformed_from number before ++ malformed_from (number + length before) after
malformed_append number [] after = ap (λ n. malformed_from n after) (omega arith)
malformed_append number (line ∷ before) after =
    number_in_front (is_malformed line) number _ (malformed_from (number + 1) before) (malformed_from (number + length (line ∷ before)) after)
    (malformed_append (number + 1) before after
    ∙ ap (λ n. malformed_from (number + 1) before ++ malformed_from n after) (omega arith))

-- the cookies and the numbers of one line more, which is read as this
pub next_line : {A : Type 0} (text : List ℕ) (walked : List A) (item : A) (place : ℕ) (line : List ℕ) (read : Option (Option Row))
    → length walked < length (enumerate_from 0 (lines text))
    → (place, line) ≡ get_or (enumerate_from 0 (lines text)) (length walked) (place, line) → line_cookie line ≡ read
    → (well_formed_rows (take (length (walked ++ item ∷ [])) (lines text))
    ≡ well_formed_rows (take (length walked) (lines text)) ++ cons_option (unwrap_or read None) [])
    × (malformed_from 1 (take (length (walked ++ item ∷ [])) (lines text))
    ≡ malformed_from 1 (take (length walked) (lines text)) ++ (if is_none read then (place + 1) ∷ [] else []))
next_line text walked item place line read more next is =
    let one : length (walked ++ item ∷ []) ≡ suc (length walked) = omega (arith, length-append walked (item ∷ [])) in
    let before = take (length walked) (lines text) in
    let here = at_next (length walked) place line (lines text) more next in
    let longer = ap (λ n. take n (lines text)) one ∙ here.1 in
    let number : 1 + length before ≡ place + 1 = omega (arith, here.2) in (
      ap well_formed_rows longer ∙ rows_append before (line ∷ [])
          ∙ ap (λ row. well_formed_rows before ++ cons_option (unwrap_or row None) []) is,
      ap (malformed_from 1) longer ∙ malformed_append 1 before (line ∷ [])
          ∙ ap (λ n. malformed_from 1 before ++ malformed_from n (line ∷ [])) number
          ∙ ap (λ row. malformed_from 1 before ++ (if is_none row then (place + 1) ∷ [] else [])) is,
    )

-- the line that is visited is a cookie or malformed
pub has_line : (text : List ℕ) (count place : ℕ) (line : List ℕ) → count < length (enumerate_from 0 (lines text))
    → (place, line) ≡ get_or (enumerate_from 0 (lines text)) count (place, line)
    → ((row : Row) × (line_cookie line ≡ Some (Some row))) ⊎ (line_cookie line ≡ None) → HasCookieOrMalformed text
has_line text count place line more next (inl (row, is)) =
    let here = at_next count place line (lines text) more next in
    let before = take count (lines text) in
    let after = drop (suc count) (lines text) in
    let split : well_formed_rows (lines text) ≡ well_formed_rows before ++ row ∷ well_formed_rows after =
    ap well_formed_rows here.0 ∙ rows_append before (line ∷ after)
    ∙ ap (λ read. well_formed_rows before ++ cons_option (unwrap_or read None) (well_formed_rows after)) is in
    inl (λ none. let count = ap length (sym split ∙ none) in omega (arith, count, length-append (well_formed_rows before) (row ∷ well_formed_rows after)))
has_line text count place line more next (inr is) =
    let here = at_next count place line (lines text) more next in
    let before = take count (lines text) in
    let after = drop (suc count) (lines text) in
    let number = 1 + length before in
    let others = malformed_from (number + 1) after in
    let split : malformed_from 1 (lines text) ≡ malformed_from 1 before ++ number ∷ others =
    ap (malformed_from 1) here.0 ∙ malformed_append 1 before (line ∷ after)
    ∙ ap (λ read. malformed_from 1 before ++ (if is_none read then number ∷ others else others)) is in
    inr (λ none. let count = ap length (sym split ∙ none) in omega (arith, count, length-append (malformed_from 1 before) (number ∷ others)))

-- what holds, holds on an error
pub on_err : {A E : Type 0} (result : Result A E) {P : Type 0} → P → OnErr result P
on_err (Ok value) holds = tt
on_err (Err error) holds = holds

-- an error at a line: it is malformed or a cookie
pub at_line : (error : NetscapeError) (number : ℕ) (line : List ℕ) → FailsAtLine error number line
    → ((row : Row) × (line_cookie line ≡ Some (Some row))) ⊎ (line_cookie line ≡ None)
at_line (BadLine at) number line (is, bad) = inr bad
at_line Memory number line (row, is) = inl (row, is)
at_line Unrepresentable number line fails = absurd fails
at_line Io number line fails = absurd fails
at_line NotUtf8 number line fails = absurd fails
