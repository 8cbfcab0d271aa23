-- The lines of a file with their line ends.
use Rattle.std.proofs.Common.{◌≡◌, ◌≢◌, ℕ, suc, ◌<◌, ◌⊎◌, get_or, length, arith, unwrap_or, append_assoc, Bool, true, false, not, if◌then◌else◌, List, [], ◌∷◌, ◌++◌, filter, refl, sym, ap, subst, ◌∙◌, inl, inr, ⊎_elim, append-nil, Option, Some, None}
use Rattle.std.specs.Prelude.{⊤}
use Rattle.std.specs.Char.{is_newline}
use Rattle.std.specs.List.{concat, cons_option, list_any, onto_first}
use Rattle.std.proofs.lemmas.Bool.{cases_Bool, cond-false, cond-true, ne_eqb, not_from_false, not_from_true}
use Rattle.cookie_parts.specs.Cookie.{Row}
use Rattle.cookie_parts.specs.Hosts.{passes}
use Rattle.cookie_netscape.specs.Files.{cookie_of_line, well_formed_rows}
use Rattle.cookie_netscape.specs.Lines.{content_cookie, fields_cookie, line_cookie}
use Rattle.cookie_edit.specs.Edits.{ended_lines, is_named, other_lines, put_line_in, with_line}

-- the first line with one byte more joins to the same bytes
first_longer : (b : ℕ) (lines : List (List ℕ)) → concat (onto_first b lines) ≡ b ∷ concat lines
first_longer b [] = refl
first_longer b (line ∷ lines) = refl

-- the lines of a file join to the file
pub joined : (text : List ℕ) → concat (ended_lines text) ≡ text
joined [] = refl
joined (b ∷ rest) =
    ⊎_elim (λ feed. ap concat (cond-true _ _ _ feed) ∙ ap (λ more. b ∷ more) (joined rest))
    (λ other. ap concat (cond-false _ _ _ other) ∙ first_longer b (ended_lines rest) ∙ ap (λ more. b ∷ more) (joined rest))
    (cases_Bool (is_newline b))

-- the line ends in LF, and has no other
abbrev pub IsEnded : List ℕ → Type 0
IsEnded [] = ⊥
IsEnded (b ∷ []) = is_newline b ≡ true
IsEnded (b ∷ c ∷ line) = (is_newline b ≡ false) × IsEnded (c ∷ line)

-- the line has bytes, and no LF
abbrev pub IsPlain : List ℕ → Type 0
IsPlain [] = ⊥
IsPlain (b ∷ []) = is_newline b ≡ false
IsPlain (b ∷ c ∷ line) = (is_newline b ≡ false) × IsPlain (c ∷ line)

-- each of the lines ends in LF, but for the last one, which may have none
abbrev pub AreEnded : List (List ℕ) → Type 0
AreEnded [] = ⊤
AreEnded (line ∷ more) = (IsEnded line ⊎ (IsPlain line × (more ≡ []))) × AreEnded more

-- a line that ends in LF is the first line of what it begins
pub ended_first : (line rest : List ℕ) → IsEnded line → ended_lines (line ++ rest) ≡ line ∷ ended_lines rest
ended_first [] rest ended = absurd ended
ended_first (b ∷ []) rest ended = cond-true _ _ _ ended
ended_first (b ∷ c ∷ line) rest ended = cond-false _ _ _ ended.0 ∙ ap (onto_first b) (ended_first (c ∷ line) rest ended.1)

-- a line without LF is the only line
plain_alone : (line : List ℕ) → IsPlain line → ended_lines line ≡ line ∷ []
plain_alone [] plain = absurd plain
plain_alone (b ∷ []) plain = cond-false _ _ _ plain
plain_alone (b ∷ c ∷ line) plain = cond-false _ _ _ plain.0 ∙ ap (onto_first b) (plain_alone (c ∷ line) plain.1)

-- lines that are joined are the lines of what they join to
pub lines_back : (lines : List (List ℕ)) → AreEnded lines → ended_lines (concat lines) ≡ lines
lines_back [] ended = refl
lines_back (line ∷ more) ended =
    ⊎_elim (λ first. ended_first line (concat more) first ∙ ap (λ rest. line ∷ rest) (lines_back more ended.1))
    (λ last. ap (λ rest. ended_lines (line ++ concat rest)) last.1 ∙ ap ended_lines (append-nil line) ∙ plain_alone line last.0
    ∙ ap (λ rest. line ∷ rest) (sym last.1))
    ended.0

-- a byte before a line that is no LF
pub ended_longer : (b : ℕ) (line : List ℕ) → is_newline b ≡ false → IsEnded line → IsEnded (b ∷ line)
ended_longer b [] other ended = absurd ended
ended_longer b (c ∷ line) other ended = (other, ended)

plain_longer : (b : ℕ) (line : List ℕ) → is_newline b ≡ false → IsPlain line → IsPlain (b ∷ line)
plain_longer b [] other plain = absurd plain
plain_longer b (c ∷ line) other plain = (other, plain)

first_ended : (b : ℕ) (lines : List (List ℕ)) → is_newline b ≡ false → AreEnded lines → AreEnded (onto_first b lines)
first_ended b [] other ended = (inr (other, refl), tt)
first_ended b (line ∷ more) other ended =
    (⊎_elim (λ first. inl (ended_longer b line other first)) (λ last. inr (plain_longer b line other last.0, last.1)) ended.0, ended.1)

-- the lines of a file end so
pub lines_are_ended : (text : List ℕ) → AreEnded (ended_lines text)
lines_are_ended [] = tt
lines_are_ended (b ∷ rest) =
    ⊎_elim (λ feed. subst AreEnded (sym (cond-true _ _ _ feed)) (inl feed, lines_are_ended rest))
    (λ other. subst AreEnded (sym (cond-false _ _ _ other)) (first_ended b (ended_lines rest) other (lines_are_ended rest)))
    (cases_Bool (is_newline b))

-- some of the lines end so too
pub some_are_ended : (keeps : List ℕ → Bool) (lines : List (List ℕ)) → AreEnded lines → AreEnded (filter keeps lines)
some_are_ended keeps [] ended = tt
some_are_ended keeps (line ∷ more) ended =
    ⊎_elim (λ kept. subst AreEnded (sym (cond-true _ _ _ kept))
    (⊎_elim inl (λ last. inr (last.0, ap (filter keeps) last.1)) ended.0, some_are_ended keeps more ended.1))
    (λ dropped. subst AreEnded (sym (cond-false _ _ _ dropped)) (some_are_ended keeps more ended.1))
    (cases_Bool (keeps line))

-- the lines that stay are the lines of the edited file
pub others_back : (names : Row → Bool) (text : List ℕ)
    → ended_lines (concat (other_lines names (ended_lines text))) ≡ other_lines names (ended_lines text)
others_back names text = lines_back (other_lines names (ended_lines text)) (some_are_ended _ (ended_lines text) (lines_are_ended text))

-- a line that is dropped or not, by its cookie
line_by_cookie : (names : Row → Bool) (line : List ℕ) (rest : List (List ℕ)) (rows : List Row) (found : Option Row)
    → cookie_of_line line ≡ found → well_formed_rows rest ≡ filter (λ row. not (names row)) rows
    → well_formed_rows (if not (passes names found) then line ∷ rest else rest) ≡ filter (λ row. not (names row)) (cons_option found rows)
line_by_cookie names line rest rows None is same = ap (λ own. cons_option own (well_formed_rows rest)) is ∙ same
line_by_cookie names line rest rows (Some cookie) is same =
    ⊎_elim (λ named. ap well_formed_rows (cond-false _ _ _ (not_from_true _ named)) ∙ same ∙ sym (cond-false _ _ _ (not_from_true _ named)))
    (λ other. ap well_formed_rows (cond-true _ _ _ (not_from_false _ other))
    ∙ ap (λ own. cons_option own (well_formed_rows rest)) is ∙ ap (λ kept. cookie ∷ kept) same
    ∙ sym (cond-true _ _ _ (not_from_false _ other)))
    (cases_Bool (names cookie))

-- the cookies of the lines that stay
pub rows_of_others : (names : Row → Bool) (lines : List (List ℕ))
    → well_formed_rows (other_lines names lines) ≡ filter (λ row. not (names row)) (well_formed_rows lines)
rows_of_others names [] = refl
rows_of_others names (line ∷ more) =
    line_by_cookie names line (other_lines names more) (well_formed_rows more) (cookie_of_line line) refl (rows_of_others names more)

-- no byte of the string is LF
abbrev pub HasNoFeed : List ℕ → Type 0
HasNoFeed text = (i : ℕ) → i < length text → get_or text i 0 ≢ 10

-- without the first byte it has none either
later_has_none : (b : ℕ) (text : List ℕ) → HasNoFeed (b ∷ text) → HasNoFeed text
later_has_none b text none i within = none (suc i) (omega (arith, within))

-- the first byte is no LF
first_is_none : (b : ℕ) (text : List ℕ) → HasNoFeed (b ∷ text) → is_newline b ≡ false
first_is_none b text none = ne_eqb b 10 (none 0 (omega arith))

-- what precedes LF is the first line
ended_before : (line after : List ℕ) → HasNoFeed line → ended_lines (line ++ 10 ∷ after) ≡ (line ++ 10 ∷ []) ∷ ended_lines after
ended_before [] after none = refl
ended_before (b ∷ line) after none =
    cond-false _ _ _ (first_is_none b line none) ∙ ap (onto_first b) (ended_before line after (later_has_none b line none))

-- a string without LF is a line without one
plain_line : (b : ℕ) (text : List ℕ) → HasNoFeed (b ∷ text) → IsPlain (b ∷ text)
plain_line b [] none = first_is_none b [] none
plain_line b (c ∷ text) none = (first_is_none b (c ∷ text) none, plain_line c text (later_has_none b (c ∷ text) none))

-- what is kept of a file
abbrev pub kept_text : (Row → Bool) → List ℕ → List ℕ
kept_text names text = concat (other_lines names (ended_lines text))

-- what is kept of lines, of which the first is named or not
first_kept : (names : Row → Bool) (line : List ℕ) (more : List (List ℕ))
    → concat (other_lines names (line ∷ more)) ≡ (if is_named names line then [] else line) ++ concat (other_lines names more)
first_kept names line more =
    ⊎_elim (λ named. ap concat (cond-false _ _ _ (not_from_true _ named))
    ∙ sym (ap (λ first. first ++ concat (other_lines names more)) (cond-true _ _ _ named)))
    (λ other. ap concat (cond-true _ _ _ (not_from_false _ other))
    ∙ sym (ap (λ first. first ++ concat (other_lines names more)) (cond-false _ _ _ other)))
    (cases_Bool (is_named names line))

-- nothing is kept of nothing
nothing_kept : (named : Bool) (text : List ℕ) → text ≡ [] → text ≡ (if named then [] else text)
nothing_kept true text none = none
nothing_kept false text none = refl

-- what is kept of a last line
pub last_kept : (names : Row → Bool) (text : List ℕ) → HasNoFeed text
    → kept_text names text ≡ (if is_named names text then [] else text)
last_kept names [] none = nothing_kept (is_named names []) [] refl
last_kept names (b ∷ text) none =
    ap (λ lines. concat (other_lines names lines)) (plain_alone (b ∷ text) (plain_line b text none))
    ∙ first_kept names (b ∷ text) [] ∙ append-nil _

-- a line end changes no cookie
abbrev pub EndsIgnored : Type 0
EndsIgnored = (line : List ℕ) → line_cookie (line ++ 10 ∷ []) ≡ line_cookie line

-- what is kept of a line and the rest
pub line_kept : EndsIgnored → (names : Row → Bool) (line after : List ℕ) → HasNoFeed line
    → kept_text names (line ++ 10 ∷ after) ≡ (if is_named names line then [] else line ++ 10 ∷ []) ++ kept_text names after
line_kept ends names line after none =
    ap (λ lines. concat (other_lines names lines)) (ended_before line after none)
    ∙ first_kept names (line ++ 10 ∷ []) (ended_lines after)
    ∙ ap (λ read. (if passes names (unwrap_or read None) then [] else line ++ 10 ∷ []) ++ kept_text names after) (ends line)

-- one line more, which is kept
pub next_kept : EndsIgnored → (names : Row → Bool) (edited line after rest total new : List ℕ) → rest ≡ line ++ 10 ∷ after → HasNoFeed line
    → is_named names line ≡ false → edited ++ kept_text names rest ≡ total → new ≡ (edited ++ line) ++ 10 ∷ []
    → new ++ kept_text names after ≡ total
next_kept ends names edited line after rest total new is none other so_far pushed =
    ap (λ text. text ++ kept_text names after) pushed
    ∙ (append_assoc (edited ++ line) (10 ∷ []) (kept_text names after) ∙ append_assoc edited line (10 ∷ kept_text names after)
    ∙ ap (λ text. edited ++ text) (sym (append_assoc line (10 ∷ []) (kept_text names after))))
    ∙ ap (λ text. edited ++ text) (sym (ap (kept_text names) is ∙ line_kept ends names line after none
    ∙ ap (λ first. first ++ kept_text names after) (cond-false _ _ _ other)))
    ∙ so_far

-- one line more, which is dropped
pub next_dropped : EndsIgnored → (names : Row → Bool) (edited line after rest total : List ℕ) → rest ≡ line ++ 10 ∷ after → HasNoFeed line
    → is_named names line ≡ true → edited ++ kept_text names rest ≡ total → edited ++ kept_text names after ≡ total
next_dropped ends names edited line after rest total is none named so_far =
    ap (λ text. edited ++ text) (sym (ap (kept_text names) is ∙ line_kept ends names line after none
    ∙ ap (λ first. first ++ kept_text names after) (cond-true _ _ _ named)))
    ∙ so_far

-- appended strings may be grouped otherwise
regrouped : (a b c d e : List ℕ) → (a ++ (b ++ c)) ++ d ++ e ≡ (a ++ b) ++ (c ++ d ++ e)
regrouped a b c d e = simp append_assoc

-- bytes in front stay in front, whether a line is named or not
either_way : (line new missing after : List ℕ) (named : Bool) (edited : List ℕ)
    → (if named then (line ++ 10 ∷ []) ++ edited else (line ++ 10 ∷ after) ++ missing ++ new)
    ≡ (line ++ 10 ∷ []) ++ (if named then edited else after ++ missing ++ new)
either_way line new missing after true edited = refl
either_way line new missing after false edited = regrouped line (10 ∷ []) after missing new

-- the lines of what begins with a line that is not named, with a new line
pub line_before : EndsIgnored → (names : Row → Bool) (new missing line after : List ℕ) → HasNoFeed line → is_named names line ≡ false
    → put_line_in names new missing (line ++ 10 ∷ after) ≡ (line ++ 10 ∷ []) ++ put_line_in names new missing after
line_before ends names new missing line after none other =
    let first : List ℕ = line ++ 10 ∷ [] in
    let unnamed : is_named names first ≡ false = ap (λ read. passes names (unwrap_or read None)) (ends line) ∙ other in
    rw (ended_before line after none, unnamed) (either_way line new missing after (list_any (is_named names) (ended_lines after))
    (concat (with_line names new (ended_lines after))))

-- what begins with a line that is named, with a new line
pub line_replaced : EndsIgnored → (names : Row → Bool) (new missing line after : List ℕ) → HasNoFeed line → is_named names line ≡ true
    → put_line_in names new missing (line ++ 10 ∷ after) ≡ new ++ kept_text names after
line_replaced ends names new missing line after none named =
    let first : List ℕ = line ++ 10 ∷ [] in
    let own : is_named names first ≡ true = ap (λ read. passes names (unwrap_or read None)) (ends line) ∙ named in
    rw (ended_before line after none, own) refl

-- one line more, which is not named, before the new line
pub next_before : EndsIgnored → (names : Row → Bool) (new_line missing edited line after rest total new : List ℕ) → rest ≡ line ++ 10 ∷ after
    → HasNoFeed line → is_named names line ≡ false → edited ++ put_line_in names new_line missing rest ≡ total
    → new ≡ (edited ++ line) ++ 10 ∷ [] → new ++ put_line_in names new_line missing after ≡ total
next_before ends names new_line missing edited line after rest total new is none other so_far pushed =
    let others : List ℕ = put_line_in names new_line missing after in
    ap (λ text. text ++ others) pushed
    ∙ (append_assoc (edited ++ line) (10 ∷ []) others ∙ append_assoc edited line (10 ∷ others)
    ∙ ap (λ text. edited ++ text) (sym (append_assoc line (10 ∷ []) others)))
    ∙ ap (λ text. edited ++ text) (sym (ap (put_line_in names new_line missing) is ∙ line_before ends names new_line missing line after none other))
    ∙ so_far

-- the new line in place of one that is named
pub next_replaced : EndsIgnored → (names : Row → Bool) (new_line missing edited line after rest total new : List ℕ) → rest ≡ line ++ 10 ∷ after
    → HasNoFeed line → is_named names line ≡ true → edited ++ put_line_in names new_line missing rest ≡ total
    → new ≡ (edited ++ new_line) ++ kept_text names after → new ≡ total
next_replaced ends names new_line missing edited line after rest total new is none named so_far pushed =
    pushed ∙ append_assoc edited new_line (kept_text names after)
    ∙ ap (λ text. edited ++ text) (sym (ap (put_line_in names new_line missing) is ∙ line_replaced ends names new_line missing line after none named))
    ∙ so_far

-- an empty line has no cookie
pub empty_line : cookie_of_line [] ≡ None
unfolding content_cookie fields_cookie
empty_line = refl

-- a last line with the new one
pub last_with : (names : Row → Bool) (new_line missing text : List ℕ) → HasNoFeed text
    → put_line_in names new_line missing text ≡ (if is_named names text then new_line else text ++ missing ++ new_line)
last_with names new_line missing [] none = sym (cond-false _ _ _ (ap (passes names) empty_line))
last_with names new_line missing (b ∷ text) none =
    rw (plain_alone (b ∷ text) (plain_line b text none))
    (⊎_elim (λ named. rw named (append-nil new_line)) (λ other. rw other refl) (cases_Bool (is_named names (b ∷ text))))

-- four appended strings may be grouped from the right
pub grouped : (a b c d : List ℕ) → ((a ++ b) ++ c) ++ d ≡ a ++ (b ++ c ++ d)
grouped a b c d = simp append_assoc
