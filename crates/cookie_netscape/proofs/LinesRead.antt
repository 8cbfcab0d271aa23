-- Reading the lines of a file one by one.
use Rattle.std.proofs.Common.{◌≡◌, ℕ, suc, ◌+◌, ◌<◌, List, [], ◌∷◌, ◌++◌, length, take, drop, get_or, Option, Some, None, option_map, is_some, refl, sym, ap, subst, ◌∙◌, arith, take-suc}
use Rattle.std.specs.List.{cons_option, enumerate_from}
use Rattle.std.specs.Str.Lines.{lines}
use Rattle.std.proofs.lemmas.Bool.{false≢true}
use Rattle.std.proofs.lemmas.List.{append_assoc, length-append, length-take-le, take-append-drop}
use Rattle.std.proofs.lemmas.List.FromFn.{get_or-enumerate_from, length-enumerate_from}
use Rattle.std.proofs.Math.Seq.{drop-cons, take-length}
use Rattle.cookie_words.specs.Steps.{◌>>=◌}
use Rattle.cookie_parts.specs.Cookie.{Row}
use Rattle.cookie_netscape.specs.Files.{BeginsWithCookies, FailsAtLine, FailsToRead, rows_in_lines}
use Rattle.cookie_netscape.specs.Lines.{line_cookie}
use Rattle.cookie_netscape.specs.declared.error.NetscapeError.{NetscapeError}
use Rattle.cookie_netscape.specs.declared.error.NetscapeError.TheVariants.{BadLine, Unrepresentable, Io, NotUtf8, Memory}

-- a row in front stays in front
row_in_front : (first : Option Row) (rows more : List Row) → cons_option first (rows ++ more) ≡ cons_option first rows ++ more
row_in_front None rows more = refl
row_in_front (Some first) rows more = refl

-- a line before others, with more rows at the end
line_before : (first : Option (Option Row)) (others longer : Option (List Row)) (rows more : List Row)
    → (first >>= λ own. others >>= λ after. Some (cons_option own after)) ≡ Some rows
    → ((after : List Row) → others ≡ Some after → longer ≡ Some (after ++ more))
    → (first >>= λ own. longer >>= λ after. Some (cons_option own after)) ≡ Some (rows ++ more)
line_before None others longer rows more e next = absurd (false≢true (ap is_some e))
line_before (Some own) None longer rows more e next = absurd (false≢true (ap is_some e))
line_before (Some own) (Some after) longer rows more e next =
    rw (next after refl) (ap Some (row_in_front own after more) ∙ ap (option_map (λ all. all ++ more)) e)

-- one more line, which is not malformed
pub rows_in_lines-push : (before : List (List ℕ)) (line : List ℕ) (rows : List Row) (row : Option Row)
    → rows_in_lines before ≡ Some rows → line_cookie line ≡ Some row → rows_in_lines (before ++ line ∷ []) ≡ Some (rows ++ cons_option row [])
rows_in_lines-push [] line rows row e h = rw h (ap (option_map (λ all. all ++ cons_option row [])) e)
rows_in_lines-push (first ∷ before) line rows row e h =
    line_before (line_cookie first) (rows_in_lines before) (rows_in_lines (before ++ line ∷ [])) rows (cons_option row []) e
    (λ after good. rows_in_lines-push before line after row good h)

-- the lines up to one that is a cookie
pub begins_with_cookies : (text : List ℕ) (before : List (List ℕ)) (line : List ℕ) (after : List (List ℕ)) (rows : List Row) (row : Row)
    → lines text ≡ before ++ line ∷ after → rows_in_lines before ≡ Some rows → line_cookie line ≡ Some (Some row) → BeginsWithCookies text
begins_with_cookies text before line after rows row all good last = (
  before ++ line ∷ [],
  after,
  rows ++ row ∷ [],
  all ∙ sym (append_assoc before (line ∷ []) after),
  rows_in_lines-push before line rows (Some row) good last,
  λ none. let count = ap length none in omega (arith, count, length-append rows (row ∷ [])),
)

-- the first error at a line is that of the file
pub fails_at_line : (text : List ℕ) (before : List (List ℕ)) (line : List ℕ) (after : List (List ℕ)) (rows : List Row) (error : NetscapeError)
    → lines text ≡ before ++ line ∷ after → rows_in_lines before ≡ Some rows → FailsAtLine error (length before + 1) line
    → FailsToRead error text
fails_at_line text before line after rows (BadLine number) all good (is, bad) = (before, line, after, all, ap is_some good, bad, is)
fails_at_line text before line after rows Memory all good (row, last) = begins_with_cookies text before line after rows row all good last
fails_at_line text before line after rows Unrepresentable all good fails = absurd fails
fails_at_line text before line after rows Io all good fails = absurd fails
fails_at_line text before line after rows NotUtf8 all good fails = absurd fails

-- the line that is visited with its number, between those before and after it
pub at_next : (count place : ℕ) (line : List ℕ) (all : List (List ℕ)) → count < length (enumerate_from 0 all)
    → (place, line) ≡ get_or (enumerate_from 0 all) count (place, line)
    → (all ≡ take count all ++ line ∷ drop (suc count) all) × (take (suc count) all ≡ take count all ++ line ∷ [])
    × (place ≡ length (take count all))
at_next count place line all more next =
    let within : count < length all = omega (arith, length-enumerate_from 0 all) in
    let here = next ∙ get_or-enumerate_from 0 all count (place, line) within in
    let same : line ≡ get_or all count line = ap (λ numbered. numbered.1) here in (
      sym (take-append-drop count all) ∙ ap (λ rest. take count all ++ rest) (drop-cons all count line within)
          ∙ ap (λ here. take count all ++ here ∷ drop (suc count) all) (sym same),
      take-suc all count line within ∙ ap (λ last. take count all ++ last ∷ []) (sym same),
      omega (arith, ap (λ numbered. numbered.0) here, length-take-le count all (omega (arith, within))),
    )

-- all lines were visited
pub all_lines : (count : ℕ) (all : List (List ℕ)) → count ≡ length (enumerate_from 0 all) → take count all ≡ all
all_lines count all done = ap (λ n. take n all) (done ∙ length-enumerate_from 0 all) ∙ take-length all

-- the rows of one line more, visited with its number
pub next_rows : {A : Type 0} (text : List ℕ) (walked : List A) (item : A) (place : ℕ) (line : List ℕ) (rows : List Row) (row : Option Row)
    → length walked < length (enumerate_from 0 (lines text))
    → (place, line) ≡ get_or (enumerate_from 0 (lines text)) (length walked) (place, line)
    → rows_in_lines (take (length walked) (lines text)) ≡ Some rows → line_cookie line ≡ Some row
    → rows_in_lines (take (length (walked ++ item ∷ [])) (lines text)) ≡ Some (rows ++ cons_option row [])
next_rows text walked item place line rows row more next good cookie =
    let one : length (walked ++ item ∷ []) ≡ suc (length walked) = omega (arith, length-append walked (item ∷ [])) in
    let here = at_next (length walked) place line (lines text) more next in
    ap (λ n. rows_in_lines (take n (lines text))) one ∙ ap rows_in_lines here.1
    ∙ rows_in_lines-push (take (length walked) (lines text)) line rows row good cookie

-- the error at the line that is visited with its number, counted from 1
pub next_fails : (text : List ℕ) (count place : ℕ) (line : List ℕ) (rows : List Row) (error : NetscapeError)
    → count < length (enumerate_from 0 (lines text)) → (place, line) ≡ get_or (enumerate_from 0 (lines text)) count (place, line)
    → rows_in_lines (take count (lines text)) ≡ Some rows → FailsAtLine error (place + 1) line → FailsToRead error text
next_fails text count place line rows error more next good fails =
    let here = at_next count place line (lines text) more next in
    fails_at_line text (take count (lines text)) line (drop (suc count) (lines text)) rows error here.0 good
    (subst (λ n. FailsAtLine error (n + 1) line) here.2 fails)
