-- Parsing the lines of a list one by one.
use Rattle.std.proofs.Common.{◌≡◌, ℕ, suc, ◌+◌, ◌<◌, Bool, true, false, ◌||◌, List, [], ◌∷◌, ◌++◌, length, map, take, drop, get_or, Option, Some, None, Result, Ok, Err, refl, sym, ap, ◌∙◌, arith}
use Rattle.std.specs.Bool.{⊤}
use Rattle.std.specs.Borrow.{Bor}
use Rattle.std.specs.List.{enumerate_from, list_any, take-map}
use Rattle.std.specs.Result.{is_ok}
use Rattle.std.proofs.lemmas.Bool.{false≢true}
use Rattle.std.proofs.lemmas.List.{length-take-le, take-append-drop}
use Rattle.std.proofs.lemmas.List.Folds.{list_any-append}
use Rattle.std.proofs.lemmas.List.FromFn.{get_or-enumerate_from, length-enumerate_from}
use Rattle.std.proofs.lemmas.Simd.{map-map}
use Rattle.std.proofs.Math.Seq.{drop-cons}
use Rattle.cookie_psl.specs.ParsedLists.{ParsesList, AddsLine, with_rule}
use Rattle.cookie_psl.specs.declared.error.ListError.{ListError}
use Rattle.cookie_psl.specs.declared.error.ListError.TheVariants.{BadRule, Memory}
use Rattle.cookie_psl.specs.ListFormat.{line_rule, rules_of, with_line}
use Rattle.cookie_psl.specs.Rules.{Rule, RuleList, SameRules}

-- one more rule at the end, if there is one
abbrev pub then_rule : RuleList → Option Rule → RuleList
then_rule rules None = rules
then_rule rules (Some rule) = rules ++ rule ∷ []

-- the same for the result of parsing
abbrev then_read : Option Rule → Result RuleList ℕ → Result RuleList ℕ
then_read read (Ok rules) = Ok (then_rule rules read)
then_read read (Err bad) = Err bad

-- a rule in front stays in front
rule_in_front : (rule : Rule) (rules : RuleList) (read : Option Rule) → rule ∷ then_rule rules read ≡ then_rule (rule ∷ rules) read
rule_in_front rule rules None = refl
rule_in_front rule rules (Some last) = refl

-- a line before others, with one more line at the end
line_before : (number : ℕ) (parsed : Option (Option Rule)) (more longer : Result RuleList ℕ) (rules : RuleList) (read : Option Rule)
    → with_line number parsed more ≡ Ok rules → ((rest : RuleList) → more ≡ Ok rest → longer ≡ Ok (then_rule rest read))
    → with_line number parsed longer ≡ Ok (then_rule rules read)
line_before number None more longer rules read e next = absurd (false≢true (ap is_ok e))
line_before number (Some None) more longer rules read e next = next rules e
line_before number (Some (Some rule)) (Ok rest) longer rules read e next =
    ap (with_line number (Some (Some rule))) (next rest refl) ∙ ap (λ rs. Ok rs) (rule_in_front rule rest read) ∙ ap (then_read read) e
line_before number (Some (Some rule)) (Err bad) longer rules read e next = absurd (false≢true (ap is_ok e))

-- the last line
last_line : (number : ℕ) (read : Option Rule) → with_line number (Some read) (Ok []) ≡ Ok (then_rule [] read)
last_line number None = refl
last_line number (Some rule) = refl

-- one more line, which is not malformed
pub rules_of-push : (number : ℕ) (before : List (List ℕ)) (line : List ℕ) (rules : RuleList) (read : Option Rule)
    → rules_of number before ≡ Ok rules → line_rule line ≡ Some read → rules_of number (before ++ line ∷ []) ≡ Ok (then_rule rules read)
rules_of-push number [] line rules read e h =
    ap (λ parsed. with_line number parsed (Ok [])) h ∙ last_line number read ∙ ap (then_read read) e
rules_of-push number (first ∷ before) line rules read e h =
    line_before number (line_rule first) (rules_of (number + 1) before) (rules_of (number + 1) (before ++ line ∷ [])) rules read e
    (λ rest good. rules_of-push (number + 1) before line rest read good h)

-- a line before a malformed one
line_before_bad : (number bad : ℕ) (parsed : Option (Option Rule)) (more longer : Result RuleList ℕ) (rules : RuleList)
    → with_line number parsed more ≡ Ok rules → ((rest : RuleList) → more ≡ Ok rest → longer ≡ Err bad)
    → with_line number parsed longer ≡ Err bad
line_before_bad number bad None more longer rules e next = absurd (false≢true (ap is_ok e))
line_before_bad number bad (Some None) more longer rules e next = next rules e
line_before_bad number bad (Some (Some rule)) (Ok rest) longer rules e next = ap (with_line number (Some (Some rule))) (next rest refl)
line_before_bad number bad (Some (Some rule)) (Err other) longer rules e next = absurd (false≢true (ap is_ok e))

-- the first malformed line
pub rules_of-bad : (number : ℕ) (before after : List (List ℕ)) (line : List ℕ) (rules : RuleList)
    → rules_of number before ≡ Ok rules → line_rule line ≡ None → rules_of number (before ++ line ∷ after) ≡ Err (number + length before)
rules_of-bad number [] after line rules e h =
    ap (λ parsed. with_line number parsed (rules_of (number + 1) after)) h ∙ ap (λ n. Err n) (omega arith)
rules_of-bad number (first ∷ before) after line rules e h =
    line_before_bad number (number + length (first ∷ before)) (line_rule first) (rules_of (number + 1) before) (rules_of (number + 1) (before ++ line ∷ after)) rules e
    (λ rest good. rules_of-bad (number + 1) before after line rest good h ∙ ap (λ n. Err n) (omega arith))

-- swapping two tests
either : (a b : Bool) → (a || b) ≡ (b || (a || false))
either true true = refl
either true false = refl
either false true = refl
either false false = refl

-- the position of a rule in the list does not matter
pub same_with_rule : (held rules : RuleList) (read : Option Rule) → SameRules held rules → SameRules (with_rule read held) (then_rule rules read)
same_with_rule held rules None same = same
same_with_rule held rules (Some rule) same = λ test.
    ap (λ b. test rule || b) (same test) ∙ either (test rule) (list_any test rules) ∙ sym (list_any-append test rules (rule ∷ []))

-- the lines, without the numbers they were visited with
abbrev pub texts : List (ℕ × Bor (List ℕ)) → List (List ℕ)
texts lines = map (λ line. line.1.now) lines

-- numbering lines and dropping the numbers changes nothing
without_places : (n : ℕ) (lines : List (List ℕ)) → map (λ line. line.1) (enumerate_from n lines) ≡ lines
without_places n [] = refl
without_places n (line ∷ lines) = ap (λ more. line ∷ more) (without_places (n + 1) lines)

-- the first lines, visited with their numbers
first_texts : (walked : List (ℕ × Bor (List ℕ))) (count : ℕ) (lines : List (List ℕ))
    → map (λ line. (line.0, line.1.now)) walked ≡ take count (enumerate_from 0 lines) → texts walked ≡ take count lines
first_texts walked count lines e =
    sym (map-map (λ line. line.1) (λ line. (line.0, line.1.now)) walked) ∙ ap (map (λ line. line.1)) e
    ∙ sym (take-map (λ line. line.1) count (enumerate_from 0 lines)) ∙ ap (take count) (without_places 0 lines)

-- all lines
pub all_texts : (walked : List (ℕ × Bor (List ℕ))) (lines : List (List ℕ))
    → map (λ line. (line.0, line.1.now)) walked ≡ enumerate_from 0 lines → texts walked ≡ lines
all_texts walked lines e =
    sym (map-map (λ line. line.1) (λ line. (line.0, line.1.now)) walked) ∙ ap (map (λ line. line.1)) e ∙ without_places 0 lines

-- the lines before one line, that line, and those after it
at_line : (lines : List (List ℕ)) (i : ℕ) (d : List ℕ) → i < length lines
    → lines ≡ take i lines ++ get_or lines i d ∷ drop (suc i) lines
at_line lines i d within =
    sym (take-append-drop i lines) ∙ ap (λ rest. take i lines ++ rest) (drop-cons lines i d within)

-- a malformed line after well-formed ones
bad_at : (lines : List (List ℕ)) (i : ℕ) (d : List ℕ) (rules : RuleList) → i < length lines
    → rules_of 1 (take i lines) ≡ Ok rules → line_rule (get_or lines i d) ≡ None → rules_of 1 lines ≡ Err (i + 1)
bad_at lines i d rules within e h =
    ap (rules_of 1) (at_line lines i d within)
    ∙ rules_of-bad 1 (take i lines) (drop (suc i) lines) (get_or lines i d) rules e h
    ∙ ap (λ n. Err n) (omega (arith, length-take-le i lines (omega arith)))

-- the first malformed line, visited with its number
pub bad_next : (walked : List (ℕ × Bor (List ℕ))) (place : ℕ) (line : List ℕ) (lines : List (List ℕ)) (rules : RuleList)
    → map (λ line. (line.0, line.1.now)) walked ≡ take (length walked) (enumerate_from 0 lines)
    → length walked < length (enumerate_from 0 lines) → (place, line) ≡ get_or (enumerate_from 0 lines) (length walked) (place, line)
    → rules_of 1 (texts walked) ≡ Ok rules → line_rule line ≡ None → rules_of 1 lines ≡ Err (place + 1)
bad_next walked place line lines rules so_far more next good bad =
    let within : length walked < length lines = omega (arith, length-enumerate_from 0 lines) in
    let start : 0 + length walked ≡ length walked = omega arith in
    let here = next ∙ get_or-enumerate_from 0 lines (length walked) (place, line) within ∙ ap (λ n. (n, get_or lines (length walked) line)) start in
    bad_at lines (length walked) line rules within (ap (rules_of 1) (sym (first_texts walked (length walked) lines so_far)) ∙ good)
    (ap (λ numbered. line_rule numbered.1) (sym here) ∙ bad)
    ∙ ap (λ numbered. Err (numbered.0 + 1)) (sym here)

-- the error for a line that was not added
pub not_added : (error : ListError) (parsed : Option (Option Rule)) (number : ℕ) (old new : RuleList) (expected : Result RuleList ℕ)
    → AddsLine {T = ⊤} (Err error) parsed number old new → (parsed ≡ None → expected ≡ Err number) → ParsesList (Err error) expected
not_added (BadRule line) parsed number old new expected (bad, e) first = first bad ∙ ap (λ n. Err n) (sym e)
not_added Memory parsed number old new expected h first = tt
