-- What contracts see of a list.
use Rattle.std.specs.Prelude.{◌≡◌, ℕ, ◌∷◌, Option, Some, None, Result, Ok, Err, ⊤}
use Rattle.cookie_psl.specs.Rules.{Rule, RuleList, SameRules}
use Rattle.cookie_psl.specs.declared.error.ListError.{ListError}
use Rattle.cookie_psl.specs.declared.error.ListError.TheVariants.{BadRule, Memory}
use Rattle.cookie_psl.specs.declared.list.List.{List}

-- unless out of memory: a list with the rules of the string, or the number of its first malformed line
abbrev pub ParsesList : Result List ListError → Result RuleList ℕ → Type 0
ParsesList (Ok list) expected = (rules : RuleList) × (expected ≡ Ok rules) × SameRules list rules
ParsesList (Err (BadRule line)) expected = expected ≡ Err line
ParsesList (Err Memory) expected = ⊤

-- the rules and one more, if there is one
abbrev pub with_rule : Option Rule → RuleList → RuleList
with_rule None rules = rules
with_rule (Some rule) rules = rule ∷ rules

-- unless out of memory: the rules and that of the line, or the line's number if it is malformed
abbrev pub AddsLine : {T : Type 0} → Result T ListError → Option (Option Rule) → ℕ → RuleList → RuleList → Type 0
AddsLine (Ok _) expected number old new = (read : Option Rule) × (expected ≡ Some read) × SameRules new (with_rule read old)
AddsLine (Err (BadRule line)) expected number old new = (expected ≡ None) × (line ≡ number)
AddsLine (Err Memory) expected number old new = ⊤
