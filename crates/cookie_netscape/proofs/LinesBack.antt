-- The lines of a written file, read back.
use Rattle.std.proofs.Common.{◌≡◌, ℕ, ◌-◌, ◌<◌, ◌==◌, true, false, List, [], ◌∷◌, ◌++◌, length, map, flat_map, IsTrue, Option, Some, None, refl, sym, ap, ◌∙◌, append_assoc, append-nil, arith}
use Rattle.std.specs.List.{cons_option, list_all}
use Rattle.std.specs.Str.Lines.{lines, lines_of_parts, strip_carriage_return}
use Rattle.std.proofs.lemmas.Bool.{and_parts, both_ways, cond-false, false_from_ne_true}
use Rattle.std.proofs.lemmas.List.Folds.{list_any_at}
use Rattle.std.proofs.lemmas.List.Splits.{length-slice_split}
use Rattle.cookie_words.specs.Strings.{pieces}
use Rattle.cookie_parts.specs.Cookie.{Row}
use Rattle.cookie_netscape.specs.Files.{rows_in_file, rows_in_lines}
use Rattle.cookie_netscape.specs.Lines.{content_cookie, fields_cookie, line_cookie}
use Rattle.cookie_netscape.specs.Written.{as_written, header_line, is_representable, line_of, written_text}
use Rattle.cookie_netscape.specs.declared.writing.SessionExpiry.TheVariants.{Zero}
use Rattle.cookie_netscape.proofs.CookieLines.{line_back, line_is_not_empty, line_lacks}
use Rattle.cookie_netscape.proofs.FieldsBack.{next_step}
use Rattle.cookie_netscape.proofs.JoinedFields.{Lacks, first_piece, one_piece}

-- a line that is not empty, without CR and LF
record IsLine (text : List ℕ) : Type 0 where
  is_not_empty : (length text == 0) ≡ false
  has_no_return : Lacks 13 text
  has_no_feed : Lacks 10 text

-- a string without CR has none to strip
nothing_stripped : (text : List ℕ) → Lacks 13 text → strip_carriage_return text ≡ text
nothing_stripped [] lacks = refl
nothing_stripped (b ∷ rest) lacks =
    let last : ℕ = length (b ∷ rest) - 1 in
    cond-false _ _ _ (false_from_ne_true _ (λ e. both_ways _ lacks (list_any_at (λ c. c == 13) (b ∷ rest) last 0 (omega arith) e)))

-- the first of several parts is the first line
first_part : (text : List ℕ) (parts : List (List ℕ)) → 0 < length parts → Lacks 13 text
    → lines_of_parts (text ∷ parts) ≡ text ∷ lines_of_parts parts
first_part text [] several lacks = absurd (omega arith)
first_part text (second ∷ parts) several lacks = ap (λ line. line ∷ lines_of_parts (second ∷ parts)) (nothing_stripped text lacks)

-- a line before LF is the first line
first_line : (text rest : List ℕ) → IsLine text → lines (text ++ 10 ∷ rest) ≡ text ∷ lines rest
first_line text rest line =
    ap lines_of_parts (first_piece 10 text rest line.has_no_feed)
    ∙ first_part text (pieces 10 rest) (omega (arith, length-slice_split (λ b. b == 10) rest)) line.has_no_return

-- a line alone is the only line
one_line : (text : List ℕ) → IsLine text → lines text ≡ text ∷ []
one_line text line = ap lines_of_parts (one_piece 10 text line.has_no_feed) ∙ cond-false _ _ _ line.is_not_empty

-- the line of a cookie is not empty, and has no CR and LF
row_is_line : (row : Row) → is_representable row ≡ true → IsLine (line_of row)
row_is_line row fits = record {
  is_not_empty = line_is_not_empty Zero row;
  has_no_return = line_lacks 13 refl refl Zero row fits;
  has_no_feed = line_lacks 10 refl refl Zero row fits;
}

-- the first line of a file is not empty, and has no CR and LF
header_is_line : IsLine header_line
header_is_line = record { is_not_empty = refl; has_no_return = refl; has_no_feed = refl }

-- the first line of a file is skipped
header_skipped : line_cookie header_line ≡ Some None
unfolding content_cookie fields_cookie
header_skipped = refl

-- a well-formed line before others adds its cookie, if it has one
line_in_front : (first : List ℕ) (own : Option Row) (more : List (List ℕ)) (rows : List Row)
    → line_cookie first ≡ Some own → rows_in_lines more ≡ Some rows → rows_in_lines (first ∷ more) ≡ Some (cons_option own rows)
line_in_front first own more rows good others =
    next_step (line_cookie first) own _ good ∙ next_step (rows_in_lines more) rows _ others

-- a line and the lines of cookies read back, with what may follow the last line
lines_back : (end : List ℕ) → ((text : List ℕ) → IsLine text → lines (text ++ end) ≡ text ∷ [])
    → (first : List ℕ) (own : Option Row) (rows : List Row) → IsLine first → line_cookie first ≡ Some own
    → list_all is_representable rows ≡ true
    → rows_in_file (first ++ flat_map (λ row. 10 ∷ line_of row) rows ++ end) ≡ Some (cons_option own (map as_written rows))
lines_back end last first own [] line good fit =
    ap (λ text. rows_in_file (text ++ end)) (append-nil first) ∙ ap rows_in_lines (last first line) ∙ line_in_front first own [] [] good refl
lines_back end last first own (row ∷ rows) line good fit =
    let parts = and_parts (is_representable row) (list_all is_representable rows) fit in
    let rest = line_of row ++ flat_map (λ row. 10 ∷ line_of row) rows ++ end in
    ap rows_in_file (append_assoc first (10 ∷ (line_of row ++ flat_map (λ row. 10 ∷ line_of row) rows)) end)
    ∙ ap rows_in_lines (first_line first rest line)
    ∙ line_in_front first own (lines rest) (as_written row ∷ map as_written rows) good
    (lines_back end last (line_of row) (Some (as_written row)) rows (row_is_line row parts.0) (line_back Zero row parts.0) parts.1)

-- a written file reads back
pub text_back : (rows : List Row) → IsTrue (list_all is_representable rows) → rows_in_file (written_text rows) ≡ Some (map as_written rows)
text_back rows fit =
    ap rows_in_file (sym (append-nil (written_text rows)))
    ∙ lines_back [] (λ text line. ap lines (append-nil text) ∙ one_line text line) header_line None rows header_is_line header_skipped fit

-- a written file with a line feed after it reads back
pub ended_text_back : (rows : List Row) → IsTrue (list_all is_representable rows)
    → rows_in_file (written_text rows ++ 10 ∷ []) ≡ Some (map as_written rows)
ended_text_back rows fit =
    lines_back (10 ∷ []) (λ text line. first_line text [] line) header_line None rows header_is_line header_skipped fit
