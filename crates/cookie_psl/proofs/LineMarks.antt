-- Lines with and without the mark `!`.
use Rattle.std.proofs.Common.{◌≡◌, ◌≢◌, ℕ, true, false, List, [], ◌∷◌, codes, nat_eq, refl, ap, sym}
use Rattle.std.specs.List.{starts_with}
use Rattle.std.proofs.lemmas.Bool.{ne_eqb}
use Rattle.cookie_psl.specs.ParsedRules.{marked_rule}
use Rattle.cookie_psl.specs.ListFormat.{rule_from}

-- a string without the mark does not begin with it
unmarked : (part : List ℕ) → ((rest : List ℕ) → part ≢ 33 ∷ rest) → starts_with nat_eq part (codes "!") ≡ false
unmarked [] none = refl
unmarked (b ∷ rest) none = rw (ne_eqb 33 b (λ e. none rest (ap (λ c. c ∷ rest) (sym e))))

-- with the mark it is an exception
pub marked_rule-exception : (part text : List ℕ) → part ≡ 33 ∷ text → marked_rule part ≡ rule_from true text
marked_rule-exception part text e = rw e

-- without the mark it is a rule
pub marked_rule-rule : (part : List ℕ) → ((rest : List ℕ) → part ≢ 33 ∷ rest) → marked_rule part ≡ rule_from false part
marked_rule-rule part none = rw (unmarked part none)
