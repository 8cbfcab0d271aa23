-- Visiting the lines of a `cookies.txt` file with their numbers, which begin at 0.
use Rattle.std.proofs.Common.{◌≡◌, ℕ, suc, ◌+◌, ◌<◌, List, [], ◌∷◌, ◌++◌, length, take, drop, get_or, Option, Some, sym, ap, subst, ◌∙◌, arith, take-suc}
use Rattle.std.specs.List.{cons_option, enumerate_from}
use Rattle.std.specs.Str.Lines.{lines}
use Rattle.std.proofs.lemmas.List.{length-append, length-take-le, take-append-drop}
use Rattle.std.proofs.lemmas.List.FromFn.{get_or-enumerate_from, length-enumerate_from}
use Rattle.std.proofs.Math.Seq.{drop-cons, take-length}
use Rattle.cookie_parts.specs.Cookie.{Row}
use Rattle.cookie_netscape.specs.Files.{FailsAtLine, FailsToRead, rows_in_lines}
use Rattle.cookie_netscape.specs.Lines.{line_cookie}
use Rattle.cookie_netscape.specs.declared.error.NetscapeError.{NetscapeError}

-- the line that is visited, between those before and after it
pub at_next : (count place : ℕ) (line : List ℕ) (all : List (List ℕ)) → count < length (enumerate_from 0 all)
    → (place, line) ≡ get_or (enumerate_from 0 all) count (place, line)
    → (all ≡ take count all ++ line ∷ drop (suc count) all) × (take (suc count) all ≡ take count all ++ line ∷ [])
    × (place ≡ length (take count all))
at_next count place line all more next =
    let within : count < length all = omega (arith, length-enumerate_from 0 all) in
    let here = next ∙ get_or-enumerate_from 0 all count (place, line) within in
    let same : line ≡ get_or all count line = ap (λ numbered. numbered.1) here in (
      sym (take-append-drop count all) ∙ ap (λ rest. take count all ++ rest) (drop-cons all count line within)
          ∙ ap (λ here. take count all ++ here ∷ drop (suc count) all) (sym same),
      take-suc all count line within ∙ ap (λ last. take count all ++ last ∷ []) (sym same),
      omega (arith, ap (λ numbered. numbered.0) here, length-take-le count all (omega (arith, within))),
    )

-- all lines were visited
pub all_lines : (count : ℕ) (all : List (List ℕ)) → count ≡ length (enumerate_from 0 all) → take count all ≡ all
all_lines count all done = ap (λ n. take n all) (done ∙ length-enumerate_from 0 all) ∙ take-length all

-- the rows of one line more; `line_next` is the law of the format
pub next_rows : (line_next : (before : List (List ℕ)) (line : List ℕ) (rows : List Row) (row : Option Row)
    → rows_in_lines before ≡ Some rows → line_cookie line ≡ Some row → rows_in_lines (before ++ line ∷ []) ≡ Some (rows ++ cons_option row []))
    → {A : Type 0} (text : List ℕ) (walked : List A) (item : A) (place : ℕ) (line : List ℕ) (rows : List Row) (row : Option Row)
    → length walked < length (enumerate_from 0 (lines text))
    → (place, line) ≡ get_or (enumerate_from 0 (lines text)) (length walked) (place, line)
    → rows_in_lines (take (length walked) (lines text)) ≡ Some rows → line_cookie line ≡ Some row
    → rows_in_lines (take (length (walked ++ item ∷ [])) (lines text)) ≡ Some (rows ++ cons_option row [])
next_rows line_next text walked item place line rows row more next good cookie =
    let one : length (walked ++ item ∷ []) ≡ suc (length walked) = omega (arith, length-append walked (item ∷ [])) in
    let here = at_next (length walked) place line (lines text) more next in
    ap (λ n. rows_in_lines (take n (lines text))) one ∙ ap rows_in_lines here.1
    ∙ line_next (take (length walked) (lines text)) line rows row good cookie

-- the error at a line, whose number is counted from 1; `line_fails` is the law of the format
pub next_fails : (line_fails : (text : List ℕ) (before : List (List ℕ)) (line : List ℕ) (after : List (List ℕ)) (rows : List Row)
    (error : NetscapeError) → lines text ≡ before ++ line ∷ after → rows_in_lines before ≡ Some rows
    → FailsAtLine error (length before + 1) line → FailsToRead error text)
    → (text : List ℕ) (count place : ℕ) (line : List ℕ) (rows : List Row) (error : NetscapeError)
    → count < length (enumerate_from 0 (lines text)) → (place, line) ≡ get_or (enumerate_from 0 (lines text)) count (place, line)
    → rows_in_lines (take count (lines text)) ≡ Some rows → FailsAtLine error (place + 1) line → FailsToRead error text
next_fails line_fails text count place line rows error more next good fails =
    let here = at_next count place line (lines text) more next in
    line_fails text (take count (lines text)) line (drop (suc count) (lines text)) rows error here.0 good
    (subst (λ n. FailsAtLine error (n + 1) line) here.2 fails)
