-- The lines of a file with the line of a cookie, and their cookies.
use Rattle.std.proofs.Common.{◌≡◌, ℕ, ◌-◌, ◌==◌, ◌||◌, ◌⊎◌, IsTrue, Bool, true, false, not, if◌then◌else◌, List, [], ◌∷◌, ◌++◌, codes, length, take, drop, nat_eq, refl, sym, ap, subst, ◌∙◌, inl, inr, ⊎_elim, append-nil, append_assoc, arith, unwrap_or, Option, Some, None}
use Rattle.std.specs.Char.{is_ascii_whitespace, is_newline}
use Rattle.std.specs.List.{before_first, cons_option, ends_with, list_any, onto_first}
use Rattle.std.proofs.lemmas.Bool.{cases_Bool, cond-false, cond-true, eqb-true, false≢true, not_from_false, not_from_true, or_cases, or_left, or_parts, or_right}
use Rattle.std.proofs.lemmas.List.{take-append-drop}
use Rattle.std.proofs.lemmas.List.Elements.{filter-append}
use Rattle.std.proofs.lemmas.Slice.Eq.{bytes_eq-Decides}
use Rattle.cookie_parts.specs.Cookie.{Row}
use Rattle.cookie_parts.specs.Hosts.{passes}
use Rattle.cookie_netscape.specs.Files.{cookie_of_line, well_formed_rows}
use Rattle.cookie_netscape.specs.Written.{as_written, line_in}
use Rattle.cookie_netscape.specs.Lines.{line_cookie}
use Rattle.cookie_laws.specs.Rows.{has_key, key_of, same_key_equiv}
use Rattle.cookie_edit.specs.Edits.{ended_lines, has_named_line, is_named, is_set_by, line_end, missing_end, new_line, other_lines, put_line_in, session_expiry, with_line, with_row}
use Rattle.cookie_edit.proofs.EndedLines.{AreEnded, IsEnded, ended_first, ended_longer, lines_are_ended, lines_back, rows_of_others, some_are_ended}
use Rattle.cookie_edit.proofs.ReadAlike.{SpaceIgnored, after, after_byte, after_nothing, space_behind}

-- with a new line that ends in LF, lines end so
with_line_ended : (names : Row → Bool) (new : List ℕ) (lines : List (List ℕ)) → IsEnded new → AreEnded lines → AreEnded (with_line names new lines)
with_line_ended names new [] is ended = tt
with_line_ended names new (line ∷ more) is ended =
    ⊎_elim (λ named. subst AreEnded (sym (cond-true _ _ _ named)) (inl is, some_are_ended _ more ended.1))
    (λ other. subst AreEnded (sym (cond-false _ _ _ other))
    (⊎_elim inl (λ last. inr (last.0, ap (with_line names new) last.1)) ended.0, with_line_ended names new more is ended.1))
    (cases_Bool (is_named names line))

-- the lines of a file with a new line in place of those that are named
replaced_lines : (names : Row → Bool) (new missing text : List ℕ) → IsEnded new → has_named_line names text ≡ true
    → ended_lines (put_line_in names new missing text) ≡ with_line names new (ended_lines text)
replaced_lines names new missing text is named =
    ap ended_lines (cond-true _ _ _ named)
    ∙ lines_back (with_line names new (ended_lines text)) (with_line_ended names new (ended_lines text) is (lines_are_ended text))

-- the file is empty, or ends in LF
abbrev IsWhole : List ℕ → Type 0
IsWhole text = (text ≡ []) ⊎ ((front : List ℕ) × (text ≡ front ++ 10 ∷ []))

-- the lines up to LF are not empty, and those of what follows come after them
lines_in_front : (front rest : List ℕ) → (first : List ℕ) × (more : List (List ℕ))
    × (ended_lines (front ++ 10 ∷ []) ≡ first ∷ more) × (ended_lines (front ++ 10 ∷ rest) ≡ first ∷ (more ++ ended_lines rest))
lines_in_front [] rest = (10 ∷ [], [], refl, refl)
lines_in_front (b ∷ front) rest =
    let lines = lines_in_front front rest in
    ⊎_elim (λ feed. (
      b ∷ [],
      ended_lines (front ++ 10 ∷ []),
      cond-true _ _ _ feed,
      cond-true _ _ _ feed ∙ ap (λ more. (b ∷ []) ∷ more) (lines.3 ∙ ap (λ more. more ++ ended_lines rest) (sym lines.2)),
    ))
    (λ other. (b ∷ lines.0, lines.1, cond-false _ _ _ other ∙ ap (onto_first b) lines.2, cond-false _ _ _ other ∙ ap (onto_first b) lines.3))
    (cases_Bool (is_newline b))

-- the lines of a whole file, and of what follows it
lines_appended : (text rest : List ℕ) → IsWhole text → ended_lines (text ++ rest) ≡ ended_lines text ++ ended_lines rest
lines_appended text rest whole =
    ⊎_elim (λ empty. rw empty refl)
    (λ ends. let lines = lines_in_front ends.0 rest in
    ap (λ all. ended_lines (all ++ rest)) ends.1 ∙ ap ended_lines (append_assoc ends.0 (10 ∷ []) rest) ∙ lines.3
    ∙ ap (λ all. all ++ ended_lines rest) (sym (ap ended_lines ends.1 ∙ lines.2)))
    whole

-- CRLF or LF
abbrev IsLineEnd : List ℕ → Type 0
IsLineEnd ending = (ending ≡ 13 ∷ 10 ∷ []) ⊎ (ending ≡ 10 ∷ [])

-- the line end of a file is one
line_end_is : (text : List ℕ) → IsLineEnd (line_end text)
line_end_is text =
    ⊎_elim (λ returns. inl (cond-true _ _ _ returns)) (λ other. inr (cond-false _ _ _ other))
    (cases_Bool (ends_with nat_eq (before_first is_newline text) (codes "\r")))

-- with a line end, a file is whole
whole_after : (text ending : List ℕ) → IsLineEnd ending → IsWhole (text ++ ending)
whole_after text ending is =
    ⊎_elim (λ crlf. inr (text ++ 13 ∷ [], ap (λ end. text ++ end) crlf ∙ sym (append_assoc text (13 ∷ []) (10 ∷ []))))
    (λ lf. inr (text, ap (λ end. text ++ end) lf))
    is

-- what ends in LF is something and LF
lf_last : (text : List ℕ) → ends_with nat_eq text (codes "\n") ≡ true → text ≡ take (length text - 1) text ++ 10 ∷ []
lf_last text ends =
    sym (take-append-drop (length text - 1) text)
    ∙ ap (λ last. take (length text - 1) text ++ last) (sym ((bytes_eq-Decides (10 ∷ []) (drop (length text - 1) text)).0 ends))

-- what has no byte is empty
none_long : (text : List ℕ) → length text ≡ 0 → text ≡ []
none_long [] none = refl
none_long (b ∷ text) none = absurd (omega (arith, none))

-- with the line end that its last line lacks, a file is whole
whole_with_end : (text : List ℕ) → IsWhole (text ++ missing_end text)
whole_with_end text =
    ⊎_elim (λ ended. subst IsWhole (sym (ap (λ end. text ++ end) (cond-true _ _ _ ended) ∙ append-nil text))
    (⊎_elim (λ empty. inl (none_long text (eqb-true _ 0 empty))) (λ lf. inr (take (length text - 1) text, lf_last text lf)) (or_cases _ _ ended)))
    (λ lacks. subst IsWhole (sym (ap (λ end. text ++ end) (cond-false _ _ _ lacks))) (whole_after text (line_end text) (line_end_is text)))
    (cases_Bool ((length text == 0) || ends_with nat_eq text (codes "\n")))

-- the lines of a file with a new line after its last one
added_lines : (names : Row → Bool) (new text : List ℕ) → IsEnded new → has_named_line names text ≡ false
    → ended_lines (put_line_in names new (missing_end text) text) ≡ ended_lines (text ++ missing_end text) ++ new ∷ []
added_lines names new text is other =
    ap ended_lines (cond-false _ _ _ other)
    ∙ lines_appended (text ++ missing_end text) new (whole_with_end text)
    ∙ ap (λ last. ended_lines (text ++ missing_end text) ++ last) (sym (ap ended_lines (append-nil new)) ∙ ended_first new [] is)

-- white space behind a file changes no cookie
space_after : SpaceIgnored → (start text : List ℕ) (b : ℕ) → IsTrue (is_ascii_whitespace b)
    → well_formed_rows (after start (ended_lines (text ++ b ∷ []))) ≡ well_formed_rows (after start (ended_lines text))
space_after spaces start [] b space =
    ⊎_elim (λ feed. ap (λ lines. well_formed_rows (after start lines)) (cond-true _ _ _ feed))
    (λ other. ap (λ lines. well_formed_rows (after start lines)) (cond-false _ _ _ other))
    (cases_Bool (is_newline b))
    ∙ ap (λ own. cons_option own []) (space_behind spaces start b space)
space_after spaces start (x ∷ rest) b space =
    ⊎_elim (λ feed. ap (λ lines. well_formed_rows (after start lines)) (cond-true _ _ _ feed)
    ∙ ap (λ more. cons_option (cookie_of_line (start ++ x ∷ [])) more)
    (sym (after_nothing (ended_lines (rest ++ b ∷ []))) ∙ space_after spaces [] rest b space ∙ after_nothing (ended_lines rest))
    ∙ sym (ap (λ lines. well_formed_rows (after start lines)) (cond-true _ _ _ feed)))
    (λ other. ap (λ lines. well_formed_rows (after start lines)) (cond-false _ _ _ other)
    ∙ ap well_formed_rows (after_byte start x (ended_lines (rest ++ b ∷ [])))
    ∙ space_after spaces (start ++ x ∷ []) rest b space
    ∙ sym (ap (λ lines. well_formed_rows (after start lines)) (cond-false _ _ _ other) ∙ ap well_formed_rows (after_byte start x (ended_lines rest))))
    (cases_Bool (is_newline x))

-- nor does one byte of it
one_space : SpaceIgnored → (text : List ℕ) (b : ℕ) → IsTrue (is_ascii_whitespace b)
    → well_formed_rows (ended_lines (text ++ b ∷ [])) ≡ well_formed_rows (ended_lines text)
one_space spaces text b space =
    sym (after_nothing (ended_lines (text ++ b ∷ []))) ∙ space_after spaces [] text b space ∙ after_nothing (ended_lines text)

-- nor does a line end
end_after : SpaceIgnored → (text ending : List ℕ) → IsLineEnd ending → well_formed_rows (ended_lines (text ++ ending)) ≡ well_formed_rows (ended_lines text)
end_after spaces text ending is =
    ⊎_elim (λ crlf. ap (λ end. well_formed_rows (ended_lines (text ++ end))) crlf
    ∙ ap (λ all. well_formed_rows (ended_lines all)) (sym (append_assoc text (13 ∷ []) (10 ∷ [])))
    ∙ one_space spaces (text ++ 13 ∷ []) 10 refl ∙ one_space spaces text 13 refl)
    (λ lf. ap (λ end. well_formed_rows (ended_lines (text ++ end))) lf ∙ one_space spaces text 10 refl)
    is

-- nor does the one that the last line lacks
missing_ignored : SpaceIgnored → (text : List ℕ) → well_formed_rows (ended_lines (text ++ missing_end text)) ≡ well_formed_rows (ended_lines text)
missing_ignored spaces text =
    ⊎_elim (λ ended. ap (λ all. well_formed_rows (ended_lines all)) (ap (λ end. text ++ end) (cond-true _ _ _ ended) ∙ append-nil text))
    (λ lacks. ap (λ end. well_formed_rows (ended_lines (text ++ end))) (cond-false _ _ _ lacks) ∙ end_after spaces text (line_end text) (line_end_is text))
    (cases_Bool ((length text == 0) || ends_with nat_eq text (codes "\n")))

-- a row is named where a line is
option_any : (names : Row → Bool) (own : Option Row) (rows : List Row) → list_any names (cons_option own rows) ≡ (passes names own || list_any names rows)
option_any names None rows = refl
option_any names (Some row) rows = refl

rows_named : (names : Row → Bool) (lines : List (List ℕ)) → list_any names (well_formed_rows lines) ≡ list_any (is_named names) lines
rows_named names [] = refl
rows_named names (line ∷ more) =
    option_any names (cookie_of_line line) (well_formed_rows more) ∙ ap (λ later. is_named names line || later) (rows_named names more)

-- the cookies of lines, and of others behind them
option_before : (own : Option Row) (rows more : List Row) → cons_option own (rows ++ more) ≡ cons_option own rows ++ more
option_before None rows more = refl
option_before (Some row) rows more = refl

rows_append : (lines more : List (List ℕ)) → well_formed_rows (lines ++ more) ≡ well_formed_rows lines ++ well_formed_rows more
rows_append [] more = refl
rows_append (line ∷ lines) more =
    ap (cons_option (cookie_of_line line)) (rows_append lines more)
    ∙ option_before (cookie_of_line line) (well_formed_rows lines) (well_formed_rows more)

-- the cookies of lines with a new one, by the cookie of the first
with_line_first : (names : Row → Bool) (new line : List ℕ) (cookie : Row) (more : List (List ℕ)) (found : Option Row)
    → cookie_of_line new ≡ Some cookie → cookie_of_line line ≡ found
    → (list_any (is_named names) more ≡ true → well_formed_rows (with_line names new more) ≡ with_row names cookie (well_formed_rows more))
    → (passes names found || list_any (is_named names) more) ≡ true
    → well_formed_rows (with_line names new (line ∷ more)) ≡ with_row names cookie (cons_option found (well_formed_rows more))
with_line_first names new line cookie more None read is later some =
    ap well_formed_rows (cond-false _ _ _ (ap (passes names) is))
    ∙ ap (λ own. cons_option own (well_formed_rows (with_line names new more))) is ∙ later some
with_line_first names new line cookie more (Some row) read is later some =
    ⊎_elim (λ named. ap well_formed_rows (cond-true _ _ _ (ap (passes names) is ∙ named))
    ∙ ap (λ own. cons_option own (well_formed_rows (other_lines names more))) read
    ∙ ap (λ rows. cookie ∷ rows) (rows_of_others names more) ∙ sym (cond-true _ _ _ named))
    (λ other. ap well_formed_rows (cond-false _ _ _ (ap (passes names) is ∙ other))
    ∙ ap (λ own. cons_option own (well_formed_rows (with_line names new more))) is
    ∙ ap (λ rows. row ∷ rows) (later (sym (ap (λ first. first || list_any (is_named names) more) other) ∙ some)) ∙ sym (cond-false _ _ _ other))
    (cases_Bool (names row))

-- the cookies of lines with a new one in place of those that are named
rows_with_line : (names : Row → Bool) (new : List ℕ) (cookie : Row) (lines : List (List ℕ)) → cookie_of_line new ≡ Some cookie
    → list_any (is_named names) lines ≡ true → well_formed_rows (with_line names new lines) ≡ with_row names cookie (well_formed_rows lines)
rows_with_line names new cookie [] read some = absurd (false≢true some)
rows_with_line names new cookie (line ∷ more) read some =
    with_line_first names new line cookie more (cookie_of_line line) read refl (rows_with_line names new cookie more read) some

-- a row that replaces none comes last
with_row_last : (names : Row → Bool) (new : Row) (rows : List Row) → list_any names rows ≡ false → with_row names new rows ≡ rows ++ new ∷ []
with_row_last names new [] none = refl
with_row_last names new (row ∷ rows) none =
    let parts = or_parts (names row) (list_any names rows) none in
    cond-false _ _ _ parts.0 ∙ ap (λ more. row ∷ more) (with_row_last names new rows parts.1)

-- the cookies of a file with a new line
pub set_rows : SpaceIgnored → (names : Row → Bool) (new : List ℕ) (cookie : Row) (text : List ℕ) → IsEnded new → cookie_of_line new ≡ Some cookie
    → well_formed_rows (ended_lines (put_line_in names new (missing_end text) text)) ≡ with_row names cookie (well_formed_rows (ended_lines text))
set_rows spaces names new cookie text is read =
    ⊎_elim (λ named. ap well_formed_rows (replaced_lines names new (missing_end text) text is named)
    ∙ rows_with_line names new cookie (ended_lines text) read named)
    (λ other. ap well_formed_rows (added_lines names new text is other)
    ∙ rows_append (ended_lines (text ++ missing_end text)) (new ∷ [])
    ∙ ap (λ rows. rows ++ well_formed_rows (new ∷ [])) (missing_ignored spaces text)
    ∙ ap (λ own. well_formed_rows (ended_lines text) ++ cons_option own []) read
    ∙ sym (with_row_last names cookie (well_formed_rows (ended_lines text)) (rows_named names (ended_lines text) ∙ other)))
    (cases_Bool (has_named_line names text))

-- a line behind bytes that are no LF ends as they do
ended_behind : (line ending : List ℕ) → list_any is_newline line ≡ false → IsEnded ending → IsEnded (line ++ ending)
ended_behind [] ending none is = is
ended_behind (b ∷ line) ending none is =
    let parts = or_parts (is_newline b) (list_any is_newline line) none in
    ended_longer b (line ++ ending) parts.0 (ended_behind line ending parts.1 is)

-- CRLF and LF end in LF
ended_end : (ending : List ℕ) → IsLineEnd ending → IsEnded ending
ended_end ending is = ⊎_elim (λ crlf. subst IsEnded (sym crlf) (refl, refl)) (λ lf. subst IsEnded (sym lf) refl) is

-- a line end changes no cookie
end_behind : SpaceIgnored → (line ending : List ℕ) → IsLineEnd ending → cookie_of_line (line ++ ending) ≡ cookie_of_line line
end_behind spaces line ending is =
    ⊎_elim (λ crlf. ap (λ end. cookie_of_line (line ++ end)) crlf ∙ ap cookie_of_line (sym (append_assoc line (13 ∷ []) (10 ∷ [])))
    ∙ space_behind spaces (line ++ 13 ∷ []) 10 refl ∙ space_behind spaces line 13 refl)
    (λ lf. ap (λ end. cookie_of_line (line ++ end)) lf ∙ space_behind spaces line 10 refl)
    is

-- the line of a cookie ends in LF
pub new_is_ended : (text : List ℕ) (cookie : Row) → list_any is_newline (line_in (session_expiry text) cookie) ≡ false → IsEnded (new_line text cookie)
new_is_ended text cookie one =
    ended_behind (line_in (session_expiry text) cookie) (line_end text) one (ended_end (line_end text) (line_end_is text))

-- it reads back
pub new_reads : SpaceIgnored → (text : List ℕ) (cookie : Row) → line_cookie (line_in (session_expiry text) cookie) ≡ Some (Some (as_written cookie))
    → cookie_of_line (new_line text cookie) ≡ Some (as_written cookie)
new_reads spaces text cookie read =
    end_behind spaces (line_in (session_expiry text) cookie) (line_end text) (line_end_is text)
    ∙ ap (λ found. unwrap_or found None) read

-- one test passes what another does
abbrev IsWider : (Row → Bool) → (Row → Bool) → Type 0
IsWider names also = (row : Row) → names row ≡ true → also row ≡ true

wider_option : (names also : Row → Bool) → IsWider names also → (found : Option Row) → passes names found ≡ true → passes also found ≡ true
wider_option names also wider None named = absurd (false≢true named)
wider_option names also wider (Some row) named = wider row named

-- a line that is kept or not, before the same others
same_first : (also : Row → Bool) (line : List ℕ) (one two : List (List ℕ)) → other_lines also one ≡ other_lines also two
    → other_lines also (line ∷ one) ≡ other_lines also (line ∷ two)
same_first also line one two same = ap (λ rest. if not (is_named also line) then line ∷ rest else rest) same

-- the others of the others
fewer_others : (names also : Row → Bool) (lines : List (List ℕ)) → IsWider names also → other_lines also (other_lines names lines) ≡ other_lines also lines
fewer_others names also [] wider = refl
fewer_others names also (line ∷ more) wider =
    ⊎_elim (λ named. ap (other_lines also) (cond-false _ _ _ (not_from_true _ named)) ∙ fewer_others names also more wider
    ∙ sym (cond-false _ _ _ (not_from_true _ (wider_option names also wider (cookie_of_line line) named))))
    (λ other. ap (other_lines also) (cond-true _ _ _ (not_from_false _ other)) ∙ same_first also line (other_lines names more) more (fewer_others names also more wider))
    (cases_Bool (is_named names line))

-- the others of lines with a new one
others_with_line : (names also : Row → Bool) (new : List ℕ) (lines : List (List ℕ)) → IsWider names also → is_named also new ≡ true
    → other_lines also (with_line names new lines) ≡ other_lines also lines
others_with_line names also new [] wider own = refl
others_with_line names also new (line ∷ more) wider own =
    ⊎_elim (λ named. ap (other_lines also) (cond-true _ _ _ named) ∙ cond-false _ _ _ (not_from_true _ own) ∙ fewer_others names also more wider
    ∙ sym (cond-false _ _ _ (not_from_true _ (wider_option names also wider (cookie_of_line line) named))))
    (λ other. ap (other_lines also) (cond-false _ _ _ other)
    ∙ same_first also line (with_line names new more) more (others_with_line names also new more wider own))
    (cases_Bool (is_named names line))

-- the cookie that is set has one of the keys
set_is_wider : (cookie : Row) → IsWider (has_key (key_of cookie)) (is_set_by cookie)
set_is_wider cookie row named = or_left _ _ named

new_is_named : (cookie : Row) (new : List ℕ) → cookie_of_line new ≡ Some (as_written cookie) → is_named (is_set_by cookie) new ≡ true
new_is_named cookie new read = ap (passes (is_set_by cookie)) read ∙ or_right _ _ (same_key_equiv.refl (key_of (as_written cookie)))

-- the others where a line is named
pub others_replaced : (cookie : Row) (new missing text : List ℕ) → IsEnded new → cookie_of_line new ≡ Some (as_written cookie)
    → has_named_line (has_key (key_of cookie)) text ≡ true
    → other_lines (is_set_by cookie) (ended_lines (put_line_in (has_key (key_of cookie)) new missing text)) ≡ other_lines (is_set_by cookie) (ended_lines text)
others_replaced cookie new missing text is read named =
    ap (other_lines (is_set_by cookie)) (replaced_lines (has_key (key_of cookie)) new missing text is named)
    ∙ others_with_line (has_key (key_of cookie)) (is_set_by cookie) new (ended_lines text) (set_is_wider cookie) (new_is_named cookie new read)

-- the others where none is
pub others_added : (cookie : Row) (new text : List ℕ) → IsEnded new → cookie_of_line new ≡ Some (as_written cookie)
    → has_named_line (has_key (key_of cookie)) text ≡ false
    → other_lines (is_set_by cookie) (ended_lines (put_line_in (has_key (key_of cookie)) new (missing_end text) text))
    ≡ other_lines (is_set_by cookie) (ended_lines (text ++ missing_end text))
others_added cookie new text is read other =
    let whole : List (List ℕ) = ended_lines (text ++ missing_end text) in
    ap (other_lines (is_set_by cookie)) (added_lines (has_key (key_of cookie)) new text is other)
    ∙ filter-append (λ line. not (is_named (is_set_by cookie) line)) whole (new ∷ [])
    ∙ ap (λ last. other_lines (is_set_by cookie) whole ++ last) (cond-false _ _ _ (not_from_true _ (new_is_named cookie new read)))
    ∙ append-nil (other_lines (is_set_by cookie) whole)
