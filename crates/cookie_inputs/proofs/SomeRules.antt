-- Whether a file has rules.
use Rattle.std.proofs.Common.{◌≡◌, ◌≢◌, ℕ, ◌+◌, ◌==◌, Bool, true, false, ◌||◌, List, [], ◌∷◌, length, nat_eq, Option, None, Some, option_map, Result, Ok, Err, refl, ap, inl, inr, arith, true≢false}
use Rattle.std.specs.Prelude.{codes}
use Rattle.std.specs.List.{list_any, starts_with}
use Rattle.std.proofs.lemmas.Bool.{cases_Bool}
use Rattle.cookie_psl.specs.ListFormat.{line_rule, read_part, with_line}
use Rattle.cookie_psl.specs.Rules.{Rule, RuleList, SameRules, default_rule}
use Rattle.cookie_inputs.specs.Suffixes.{file_line_rule, file_rules_of, has_rule, is_foreign, some_rules, with_default, ParsesLines, ParsesSuffixes}
use Rattle.cookie_inputs.specs.declared.suffixes.SuffixesError.{SuffixesError}
use Rattle.cookie_inputs.specs.declared.suffixes.SuffixesError.TheVariants.{BadRule, NoRules, Memory}

-- a line without a rule is skipped
skipped : (line : List ℕ) → has_rule line ≡ false → line_rule line ≡ Some None
unfolding line_rule
skipped line none = elim (cases_Bool ((length (read_part line) == 0) || starts_with nat_eq (read_part line) (codes "//"))) [
  | inl e ↦ rw e refl
  | inr e ↦ absurd (grind (arith, none, e))
]

-- lines without a rule have no rules
pub no_rules : (n : ℕ) (lines : List (List ℕ)) → list_any has_rule lines ≡ false → file_rules_of n lines ≡ Ok []
no_rules n [] none = refl
no_rules n (line ∷ more) none = elim (cases_Bool (has_rule line)) [
  | inl e ↦ absurd (true≢false (rw e at none))
  | inr e ↦ rw (e, skipped line e) (no_rules (n + 1) more (rw e at none))
]

-- a rule that was read is no skipped line
not_skipped : (rule : Option Rule) → option_map Some rule ≢ Some None
not_skipped None = λ e. cc
not_skipped (Some rule) = λ e. cc

-- a line with a rule is not skipped
with_rule : (line : List ℕ) → has_rule line ≡ true → line_rule line ≢ Some None
unfolding line_rule
with_rule line some = elim (cases_Bool ((length (read_part line) == 0) || starts_with nat_eq (read_part line) (codes "//"))) [
  | inl e ↦ absurd (grind (arith, some, e))
  | inr e ↦ rw e (not_skipped _)
]

-- neither in a file
file_rule : (line : List ℕ) → has_rule line ≡ true → file_line_rule line ≢ Some None
file_rule line some = elim (cases_Bool (is_foreign line)) [
  | inl e ↦ rw e (λ same. cc)
  | inr e ↦ rw e (with_rule line some)
]

-- one more line, with a rule or before lines with one
more_rules : (n : ℕ) (rule : Option (Option Rule)) (read : Result RuleList ℕ) → (rule ≡ Some None → read ≢ Ok []) → with_line n rule read ≢ Ok []
more_rules n None read some = λ e. cc
more_rules n (Some None) read some = some refl
more_rules n (Some (Some rule)) (Ok rules) some = λ e. cc
more_rules n (Some (Some rule)) (Err bad) some = λ e. cc

-- lines of which one has a rule have rules
pub some_rules-read : (n : ℕ) (lines : List (List ℕ)) → list_any has_rule lines ≡ true → file_rules_of n lines ≢ Ok []
some_rules-read n [] some = absurd (cc)
some_rules-read n (line ∷ more) some = elim (cases_Bool (has_rule line)) [
  | inl e ↦ more_rules n (file_line_rule line) (file_rules_of (n + 1) more) (λ skipped. absurd (file_rule line e skipped))
  | inr e ↦ more_rules n (file_line_rule line) (file_rules_of (n + 1) more) (λ skipped. some_rules-read (n + 1) more (rw e at some))
]

-- rules that are read stay
pub kept : (read : Result RuleList ℕ) (rules : RuleList) → read ≢ Ok [] → read ≡ Ok rules → some_rules read ≡ Ok rules
kept read [] some is = absurd (some is)
kept read (rule ∷ rules) some is = ap some_rules is

-- then there are rules
pub not_empty : (read : Result RuleList ℕ) → read ≢ Ok [] → some_rules read ≢ Err NoRules
not_empty (Ok []) some = λ e. some refl
not_empty (Ok (rule ∷ rules)) some = λ e. cc
not_empty (Err bad) some = λ e. cc

-- an error of the lines is that of the file
pub fails : (only_listed : Bool) (error : SuffixesError) (read : Result RuleList ℕ) → read ≢ Ok [] → ParsesLines (Err error) read
    → ParsesSuffixes only_listed (Err error) (some_rules read)
fails only_listed (BadRule line) read some is = ap some_rules is
fails only_listed NoRules read some is = absurd is
fails only_listed Memory read some is = not_empty read some

-- one more rule in each list
pub same_default : (only_listed : Bool) (list rules : RuleList) → SameRules list rules → SameRules (with_default only_listed list) (with_default only_listed rules)
same_default true list rules same = same
same_default false list rules same = λ test. ap (λ found. test default_rule || found) (same test)
