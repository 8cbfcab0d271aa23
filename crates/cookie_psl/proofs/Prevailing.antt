-- Lists with the same rules give the same result for each domain.
use Rattle.std.proofs.Common.{◌≡◌, ℕ, ◌||◌, max, nat_le, List, [], ◌∷◌, refl, ap, sym, ◌∙◌, true, false, Bool, Option, Some, None, arith}
use Rattle.std.specs.List.{list_any}
use Rattle.std.proofs.lemmas.Bool.{leb-true, le-leb}
use Rattle.std.proofs.lemmas.Bool.Decides.{nat_tests}
use Rattle.cookie_psl.specs.Rules.{Rule, RuleList, SameRules, greater, count_if, longest, by_rule, by_exception, prevailing}

-- there is a count, and it is at least n
abbrev at_least : ℕ → Option ℕ → Bool
at_least n None = false
at_least n (Some m) = nat_le n m

-- n is at most the greater of two numbers if it is at most one of them
or_most : (n m k : ℕ) → nat_le n (max m k) ≡ (nat_le n m || nat_le n k)
or_most n m k = grind (arith, nat_tests)

-- `or false` changes nothing
or_false : (test : Bool) → test ≡ (test || false)
or_false true = refl
or_false false = refl

-- the greater of two counts is at least n if one of them is
at_least-greater : (n : ℕ) (a b : Option ℕ) → at_least n (greater a b) ≡ (at_least n a || at_least n b)
at_least-greater n None b = refl
at_least-greater n (Some m) None = or_false (nat_le n m)
at_least-greater n (Some m) (Some k) = or_most n m k

-- a rule is of the kind, matches, and has at least n labels
abbrev reaches : ℕ → Bool → List (List ℕ) → Rule → Bool
reaches n is_exception domain rule = at_least n (count_if is_exception rule domain)

-- the longest matching rule has at least n labels if some matching rule has
any_reaches : (n : ℕ) (is_exception : Bool) (domain : List (List ℕ)) (rules : RuleList) →
    list_any (reaches n is_exception domain) rules ≡ at_least n (longest is_exception rules domain)
any_reaches n is_exception domain [] = refl
any_reaches n is_exception domain (rule ∷ rules) =
    ap (λ test. at_least n (count_if is_exception rule domain) || test) (any_reaches n is_exception domain rules)
    ∙ sym (at_least-greater n (count_if is_exception rule domain) (longest is_exception rules domain))

-- counts that are at least the same numbers are equal
same_count : (a b : Option ℕ) → ((n : ℕ) → at_least n a ≡ at_least n b) → a ≡ b
same_count None None same = refl
same_count None (Some m) same = let one = same m in let other = le-leb m m (omega arith) in cc
same_count (Some m) None same = let one = same m in let other = le-leb m m (omega arith) in cc
same_count (Some m) (Some k) same =
    let up = leb-true m k (sym (same m) ∙ le-leb m m (omega arith)) in
    let down = leb-true k m (same k ∙ le-leb k k (omega arith)) in
    ap Some (omega arith)

-- the longest matching rules of lists with the same rules have equally many labels
same_longest : (is_exception : Bool) (a b : RuleList) → SameRules a b → (domain : List (List ℕ)) → longest is_exception a domain ≡ longest is_exception b domain
same_longest is_exception a b same domain =
    same_count (longest is_exception a domain) (longest is_exception b domain)
    (λ n. sym (any_reaches n is_exception domain a) ∙ same (reaches n is_exception domain) ∙ any_reaches n is_exception domain b)

-- so the prevailing rule is the same
pub same_prevailing : (a b : RuleList) → SameRules a b → (domain : List (List ℕ)) → prevailing a domain ≡ prevailing b domain
same_prevailing a b same domain =
    ap (λ count. by_exception count (by_rule (longest false a domain))) (same_longest true a b same domain)
    ∙ ap (λ count. by_exception (longest true b domain) (by_rule count)) (same_longest false a b same domain)
