-- Lines have the same cookies with and without their line ends.
use Rattle.std.proofs.Common.{◌≡◌, ◌≢◌, ℕ, suc, ◌-◌, ◌==◌, IsTrue, true, List, [], ◌∷◌, ◌++◌, length, take, get_or, unwrap_or, refl, sym, ap, ◌∙◌, ⊎_elim, append-nil, append_assoc, arith, None}
use Rattle.std.specs.Char.{is_ascii_whitespace, is_newline}
use Rattle.std.specs.List.{cons_option, onto_first, slice_split}
use Rattle.std.specs.Str.Lines.{lines, lines_of_parts, strip_carriage_return}
use Rattle.std.proofs.Math.Seq.{take-length, take-suc}
use Rattle.std.proofs.lemmas.Bool.{cases_Bool, cond-false, cond-true, eqb-true, ne_eqb}
use Rattle.std.proofs.lemmas.List.Splits.{slice_split-cons_no, slice_split-cons_yes}
use Rattle.cookie_netscape.specs.Files.{cookie_of_line, well_formed_rows}
use Rattle.cookie_netscape.specs.Lines.{line_cookie}
use Rattle.cookie_edit.specs.Edits.{ended_lines}
use Rattle.cookie_edit.proofs.EndedLines.{empty_line}

-- white space behind a line changes no cookie
abbrev pub SpaceIgnored : Type 0
SpaceIgnored = (line : List ℕ) (b : ℕ) → IsTrue (is_ascii_whitespace b) → line_cookie (line ++ b ∷ []) ≡ line_cookie line

-- the same cookie
pub space_behind : SpaceIgnored → (line : List ℕ) (b : ℕ) → IsTrue (is_ascii_whitespace b) → cookie_of_line (line ++ b ∷ []) ≡ cookie_of_line line
space_behind spaces line b space = ap (λ read. unwrap_or read None) (spaces line b space)

-- lines, with more bytes before the first one
abbrev pub after : List ℕ → List (List ℕ) → List (List ℕ)
after start [] = start ∷ []
after start (line ∷ more) = (start ++ line) ∷ more

-- a byte may be the last one of the start or the first one of the first line
pub after_byte : (start : List ℕ) (b : ℕ) (lines : List (List ℕ)) → after start (onto_first b lines) ≡ after (start ++ b ∷ []) lines
after_byte start b [] = refl
after_byte start b (line ∷ more) = ap (λ first. first ∷ more) (sym (append_assoc start (b ∷ []) line))

-- no bytes before the first line
pub after_nothing : (lines : List (List ℕ)) → well_formed_rows (after [] lines) ≡ well_formed_rows lines
after_nothing [] = ap (λ own. cons_option own []) empty_line
after_nothing (line ∷ more) = refl

-- there is a first part
some_parts : (text : List ℕ) → (first : List ℕ) × (more : List (List ℕ)) × (slice_split is_newline text ≡ first ∷ more)
some_parts [] = ([], [], refl)
some_parts (b ∷ rest) =
    ⊎_elim (λ feed. ([], slice_split is_newline rest, slice_split-cons_yes is_newline b rest feed))
    (λ other. let parts = some_parts rest in
    (b ∷ parts.0, parts.1, slice_split-cons_no is_newline b rest other ∙ ap (onto_first b) parts.2))
    (cases_Bool (is_newline b))

-- a part before LF is a line
part_before : (part rest : List ℕ) → lines_of_parts (part ∷ slice_split is_newline rest) ≡ strip_carriage_return part ∷ lines_of_parts (slice_split is_newline rest)
part_before part rest = let parts = some_parts rest in rw parts.2 refl

-- a string that ends in a byte
last_byte : (text : List ℕ) (b : ℕ) → get_or text (length text - 1) 0 ≡ b → b ≢ 0 → text ≡ take (length text - 1) text ++ b ∷ []
last_byte [] b is some = absurd (some (sym is))
last_byte (first ∷ rest) b is some =
    let text : List ℕ = first ∷ rest in
    let all : suc (length text - 1) ≡ length text = omega arith in
    sym (ap (λ n. take n text) all ∙ take-length text)
    ∙ take-suc text (length text - 1) 0 (omega arith)
    ∙ ap (λ last. take (length text - 1) text ++ last ∷ []) is

-- a line without its CR has the same cookie
return_dropped : SpaceIgnored → (line : List ℕ) → cookie_of_line (strip_carriage_return line) ≡ cookie_of_line line
return_dropped spaces line =
    ⊎_elim (λ ends. ap cookie_of_line (cond-true _ _ _ ends)
    ∙ sym (space_behind spaces (take (length line - 1) line) 13 refl)
    ∙ ap cookie_of_line (sym (last_byte line 13 (eqb-true _ 13 ends) (λ zero. omega (arith, zero)))))
    (λ other. ap cookie_of_line (cond-false _ _ _ other))
    (cases_Bool (get_or line (length line - 1) 0 == 13))

-- a last line
last_part : (part : List ℕ) → well_formed_rows (part ∷ []) ≡ well_formed_rows (lines_of_parts (part ∷ []))
last_part [] = ap (λ own. cons_option own []) empty_line
last_part (b ∷ part) = sym (ap well_formed_rows (cond-false (length (b ∷ part) == 0) [] ((b ∷ part) ∷ []) (ne_eqb _ 0 (λ none. omega (arith, none)))))

-- no bytes before the first part
parts_after_nothing : (text : List ℕ) → after [] (slice_split is_newline text) ≡ slice_split is_newline text
parts_after_nothing text = let parts = some_parts text in rw parts.2 refl

-- a line with LF has the cookie of the part before it
ended_part : SpaceIgnored → (part : List ℕ) (b : ℕ) → is_newline b ≡ true → cookie_of_line (part ++ b ∷ []) ≡ cookie_of_line (strip_carriage_return (part ++ []))
ended_part spaces part b feed =
    let is : b ≡ 10 = eqb-true b 10 feed in
    ap (λ last. cookie_of_line (part ++ last ∷ [])) is ∙ space_behind spaces part 10 refl
    ∙ sym (return_dropped spaces part) ∙ ap (λ whole. cookie_of_line (strip_carriage_return whole)) (sym (append-nil part))

-- lines and parts after the same bytes
pub alike_after : SpaceIgnored → (start text : List ℕ)
    → well_formed_rows (after start (ended_lines text)) ≡ well_formed_rows (lines_of_parts (after start (slice_split is_newline text)))
alike_after spaces start [] = last_part start ∙ ap (λ part. well_formed_rows (lines_of_parts (part ∷ []))) (sym (append-nil start))
alike_after spaces start (b ∷ rest) =
    ⊎_elim (λ feed. ap (λ lines. well_formed_rows (after start lines)) (cond-true _ _ _ feed)
    ∙ ap (λ own. cons_option own (well_formed_rows (ended_lines rest))) (ended_part spaces start b feed)
    ∙ ap (λ more. cons_option (cookie_of_line (strip_carriage_return (start ++ []))) more)
    (sym (after_nothing (ended_lines rest)) ∙ alike_after spaces [] rest ∙ ap (λ parts. well_formed_rows (lines_of_parts parts)) (parts_after_nothing rest))
    ∙ sym (ap (λ parts. well_formed_rows (lines_of_parts (after start parts))) (slice_split-cons_yes is_newline b rest feed)
    ∙ ap well_formed_rows (part_before (start ++ []) rest)))
    (λ other. ap (λ lines. well_formed_rows (after start lines)) (cond-false _ _ _ other)
    ∙ ap well_formed_rows (after_byte start b (ended_lines rest))
    ∙ alike_after spaces (start ++ b ∷ []) rest
    ∙ sym (ap (λ parts. well_formed_rows (lines_of_parts (after start parts))) (slice_split-cons_no is_newline b rest other)
    ∙ ap (λ parts. well_formed_rows (lines_of_parts parts)) (after_byte start b (slice_split is_newline rest))))
    (cases_Bool (is_newline b))

-- lines have the same cookies with and without their line ends
pub alike : SpaceIgnored → (text : List ℕ) → well_formed_rows (ended_lines text) ≡ well_formed_rows (lines text)
alike spaces text =
    sym (after_nothing (ended_lines text)) ∙ alike_after spaces [] text
    ∙ ap (λ parts. well_formed_rows (lines_of_parts parts)) (parts_after_nothing text)
