-- Lists with one more rule.
use Rattle.std.proofs.Common.{◌≡◌, ℕ, ◌||◌, List, [], ◌∷◌, ◌++◌, map, reverse, refl, ap, sym, ◌∙◌, true, false, Bool, Option, String, option_map, string_bytes}
use Rattle.std.specs.List.{list_any}
use Rattle.std.specs.declared.alloc.Global.{Global}
use Rattle.std.proofs.lemmas.List.{map-append, reverse-append}
use Rattle.std.proofs.lemmas.List.Folds.{list_any-append}
use Rattle.cookie_psl.specs.Rules.{Rule, RuleList, SameRules}
use Rattle.cookie_psl.specs.Tree.{with_last, with_label, ends_here, rule_of}

-- swapping the first two of three tests
pub or_swap : (a b c : Bool) → (a || (b || c)) ≡ (b || (a || c))
or_swap true true c = refl
or_swap true false c = refl
or_swap false true c = refl
or_swap false false c = refl

-- regrouping three tests
pub or_assoc : (a b c : Bool) → ((a || b) || c) ≡ (a || (b || c))
or_assoc true b c = refl
or_assoc false b c = refl

-- repeating a test changes nothing
or_twice : (a b : Bool) → (a || b) ≡ (a || (a || b))
or_twice true b = refl
or_twice false b = refl

-- one more rule in the first of two lists
pub added_first : (test : Rule → Bool) (rule : Rule) (new old others : RuleList) → list_any test new ≡ (test rule || list_any test old) →
    list_any test (new ++ others) ≡ (test rule || list_any test (old ++ others))
added_first test rule new old others same =
    list_any-append test new others
    ∙ ap (λ found. found || list_any test others) same
    ∙ or_assoc (test rule) (list_any test old) (list_any test others)
    ∙ ap (λ found. test rule || found) (sym (list_any-append test old others))

-- one more rule in the second of two lists
pub added_last : (test : Rule → Bool) (rule : Rule) (others new old : RuleList) → list_any test new ≡ (test rule || list_any test old) →
    list_any test (others ++ new) ≡ (test rule || list_any test (others ++ old))
added_last test rule others new old same =
    list_any-append test others new
    ∙ ap (λ found. list_any test others || found) same
    ∙ or_swap (list_any test others) (test rule) (list_any test old)
    ∙ ap (λ found. test rule || found) (sym (list_any-append test others old))

-- a test of rules with one more label each
any_with_label : (test : Rule → Bool) (label : Option (List ℕ)) (rules : RuleList) → list_any test (with_label label rules) ≡ list_any (λ rule. test (with_last label rule)) rules
any_with_label test label [] = refl
any_with_label test label (rule ∷ rules) = ap (λ found. test (with_last label rule) || found) (any_with_label test label rules)

-- one more rule, after each rule got one more label
pub added_with_label : (test : Rule → Bool) (label : Option (List ℕ)) (rule : Rule) (new old : RuleList) → SameRules new (rule ∷ old) →
    list_any test (with_label label new) ≡ (test (with_last label rule) || list_any test (with_label label old))
added_with_label test label rule new old same =
    any_with_label test label new
    ∙ same (λ one. test (with_last label one))
    ∙ ap (λ found. test (with_last label rule) || found) (sym (any_with_label test label old))

-- a rule that ends at a node
pub added_rule : (test : Rule → Bool) (is_rule is_exception : Bool) →
    list_any test (ends_here true is_exception) ≡ (test (rule_of false []) || list_any test (ends_here is_rule is_exception))
added_rule test true true = or_twice (test (rule_of false [])) (test (rule_of true []) || false)
added_rule test true false = or_twice (test (rule_of false [])) false
added_rule test false true = refl
added_rule test false false = refl

-- an exception that ends at a node
pub added_exception : (test : Rule → Bool) (is_rule is_exception : Bool) →
    list_any test (ends_here is_rule true) ≡ (test (rule_of true []) || list_any test (ends_here is_rule is_exception))
added_exception test true true = ap (λ found. test (rule_of false []) || found) (or_twice (test (rule_of true [])) false) ∙ or_swap (test (rule_of false [])) (test (rule_of true [])) (test (rule_of true []) || false)
added_exception test true false = or_swap (test (rule_of false [])) (test (rule_of true [])) false
added_exception test false true = or_twice (test (rule_of true [])) false
added_exception test false false = refl

-- appending the last label of a rule
pub rule_push : (is_exception : Bool) (labels : List (Option (String Global))) (label : Option (String Global)) →
    rule_of is_exception (labels ++ label ∷ []) ≡ with_last (option_map string_bytes label) (rule_of is_exception labels)
rule_push is_exception labels label =
    ap (λ own. record { is_exception = is_exception; labels = own })
    (ap reverse (map-append (option_map string_bytes) labels (label ∷ [])) ∙ reverse-append (map (option_map string_bytes) labels) (option_map string_bytes label ∷ []))
