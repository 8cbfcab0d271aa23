-- The rules of a file, from those that `List::from_text` reads and the first line with a byte of a path, HTML or JSON.
use Rattle.std.proofs.Common.{◌≡◌, ℕ, ◌+◌, ◌≤◌, Bool, true, false, cond, List, [], ◌∷◌, Option, None, Some, option_map, Result, Ok, Err, min, refl, ap, ◌∙◌, inl, inr, arith, lit<}
use Rattle.std.specs.List.{position_from}
use Rattle.std.specs.Str.Iter.{split_text, split_has_more, split_pattern, split_steps}
use Rattle.std.specs.Str.Pattern.{FindsChar}
use Rattle.std.proofs.lemmas.Bool.{cases_Bool}
use Rattle.std.proofs.lemmas.Iterator.{YieldsList}
use Rattle.std.proofs.lemmas.Iterator.Splits.{YieldsList-from_str_split}
use Rattle.cookie_words.specs.Strings.{pieces}
use Rattle.cookie_psl.specs.ListFormat.{line_rule, rules_of, with_line}
use Rattle.cookie_psl.specs.Rules.{Rule, RuleList}
use Rattle.cookie_inputs.specs.Suffixes.{file_rules_of, is_foreign, unless_foreign}

-- numbers counted from one more
pub counted_from : (test : List ℕ → Bool) (n : ℕ) (lines : List (List ℕ))
    → option_map (λ at. at + 1) (position_from test n lines) ≡ position_from test (n + 1) lines
counted_from test n [] = refl
counted_from test n (line ∷ more) =
    elim (test line) as (λ passes. option_map (λ at. at + 1) (cond passes (Some n) (position_from test (n + 1) more))
    ≡ cond passes (Some (n + 1)) (position_from test (n + 1 + 1) more)) [ true ↦ refl | false ↦ counted_from test (n + 1) more ]

-- the number, if there is one, is at least n
abbrev pub IsFrom : ℕ → Option ℕ → Type 0
IsFrom n None = Unit {0}
IsFrom n (Some k) = n ≤ k

-- the number of an error, if it is one, is at least n
abbrev pub FailsFrom : ℕ → Result RuleList ℕ → Type 0
FailsFrom n (Ok rules) = Unit {0}
FailsFrom n (Err k) = n ≤ k

-- a greater bound
is_from_less : (n : ℕ) (found : Option ℕ) → IsFrom (n + 1) found → IsFrom n found
is_from_less n None from = tt
is_from_less n (Some k) from = omega (arith, from)

-- a first line that passes is numbered from n on
found_from : (test : List ℕ → Bool) (n : ℕ) (lines : List (List ℕ)) → IsFrom n (position_from test n lines)
found_from test n [] = tt
found_from test n (line ∷ more) =
    elim (test line) as (λ passes. IsFrom n (cond passes (Some n) (position_from test (n + 1) more)))
    [ true ↦ omega arith | false ↦ is_from_less n _ (found_from test (n + 1) more) ]

-- the error of one more line
line_fails_from : (n : ℕ) (rule : Option (Option Rule)) (read : Result RuleList ℕ) → FailsFrom (n + 1) read → FailsFrom n (with_line n rule read)
line_fails_from n None read from = omega arith
line_fails_from n (Some None) (Ok rules) from = tt
line_fails_from n (Some None) (Err bad) from = omega (arith, from)
line_fails_from n (Some (Some rule)) (Ok rules) from = tt
line_fails_from n (Some (Some rule)) (Err bad) from = omega (arith, from)

-- a malformed line is numbered from n on
fails_from : (n : ℕ) (lines : List (List ℕ)) → FailsFrom n (rules_of n lines)
fails_from n [] = tt
fails_from n (line ∷ more) = line_fails_from n (line_rule line) (rules_of (n + 1) more) (fails_from (n + 1) more)

-- a first line with such a byte is the first malformed line
foreign_first : (n : ℕ) (read : Result RuleList ℕ) → FailsFrom n read → unless_foreign (Some n) read ≡ Err n
foreign_first n (Ok rules) from = refl
foreign_first n (Err bad) from = let same : min bad n ≡ n = omega (arith, from) in ap Err same

-- a first line without such a byte
foreign_later : (n : ℕ) (rule : Option (Option Rule)) (found : Option ℕ) (read : Result RuleList ℕ) → IsFrom n found
    → unless_foreign found (with_line n rule read) ≡ with_line n rule (unless_foreign found read)
foreign_later n rule None read from = refl
foreign_later n None (Some k) read from = let same : min n k ≡ n = omega (arith, from) in ap Err same
foreign_later n (Some None) (Some k) read from = refl
foreign_later n (Some (Some rule)) (Some k) (Ok rules) from = refl
foreign_later n (Some (Some rule)) (Some k) (Err bad) from = refl

-- the rules of lines, from what `List::from_text` reads and the first line with such a byte
pub with_foreign : (n : ℕ) (lines : List (List ℕ)) → unless_foreign (position_from is_foreign n lines) (rules_of n lines) ≡ file_rules_of n lines
with_foreign n [] = refl
with_foreign n (line ∷ more) = elim (cases_Bool (is_foreign line)) [
  | inl e ↦ rw e (foreign_first n (rules_of n (line ∷ more)) (fails_from n (line ∷ more)))
  | inr e ↦ rw e
      (foreign_later n (line_rule line) (position_from is_foreign (n + 1) more) (rules_of (n + 1) more) (is_from_less n _ (found_from is_foreign (n + 1) more))
      ∙ ap (with_line n (line_rule line)) (with_foreign (n + 1) more))
]

-- the pieces that `text.split('\n')` yields
pub yields_lines : {s : _} (text : List ℕ)
    → split_text s ≡ text → split_has_more s ≡ true → split_pattern {P = ℕ} s ≡ 10
    → YieldsList (split_steps FindsChar (λ a b. b ≡ a)) (λ x. x.now) s (pieces 10 text)
yields_lines text whole more pattern = YieldsList-from_str_split 10 text (lit< tt) whole more pattern
