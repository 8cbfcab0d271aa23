-- The longest matching rule in joined lists, and in rules with one more label.
use Rattle.std.proofs.Common.{◌≡◌, ℕ, ◌+◌, ◌&&◌, List, [], ◌∷◌, ◌++◌, length, max, ◌≤◌, refl, ap, sym, ◌∙◌, true, false, Bool, cond, Option, Some, None, option_map, arith}
use Rattle.std.specs.Bool.{beq}
use Rattle.std.proofs.lemmas.Bool.{and_parts}
use Rattle.cookie_psl.specs.Rules.{RuleList, fits, matches, greater, count_if, longest}
use Rattle.cookie_psl.specs.Tree.{with_label, ends_here}
use Rattle.cookie_psl.proofs.GreaterCounts.{greater-assoc, greater-more}

-- of joined lists it is the greater of both
pub longest-append : (is_exception : Bool) (a b : RuleList) (domain : List (List ℕ)) →
    longest is_exception (a ++ b) domain ≡ greater (longest is_exception a domain) (longest is_exception b domain)
longest-append is_exception [] b domain = refl
longest-append is_exception (rule ∷ a) b domain =
    ap (greater (count_if is_exception rule domain)) (longest-append is_exception a b domain)
    ∙ sym (greater-assoc (count_if is_exception rule domain) (longest is_exception a domain) (longest is_exception b domain))

-- None plus one is None
cond_none : (is_fit : Bool) → None ≡ cond is_fit (option_map (λ n. n + 1) None) None
cond_none true = refl
cond_none false = refl

-- a rule that does not match has no count
no_count : (n : ℕ) (is_kind : Bool) → cond (is_kind && false) (Some n) None ≡ None
no_count n true = refl
no_count n false = refl

-- equal counts in options are equal
some_same : (n m : ℕ) → Some n ≡ Some m → n ≡ m
some_same n m is = cc

-- the count of a rule with one more label
count_step : (is_kind is_fit is_match : Bool) (n : ℕ) →
    cond (is_kind && (is_fit && is_match)) (Some (n + 1)) None ≡ cond is_fit (option_map (λ m. m + 1) (cond (is_kind && is_match) (Some n) None)) None
count_step true true true n = refl
count_step true true false n = refl
count_step true false is_match n = refl
count_step false true is_match n = refl
count_step false false is_match n = refl

-- the greater of two counts, if the label matches
greater_if : (is_fit : Bool) (a b : Option ℕ) →
    greater (cond is_fit (option_map (λ m. m + 1) a) None) (cond is_fit (option_map (λ m. m + 1) b) None) ≡ cond is_fit (option_map (λ m. m + 1) (greater a b)) None
greater_if true a b = greater-more a b
greater_if false a b = refl

-- the length of a rule with one more label
length_step : (is_match : Bool) (own : Option (List ℕ)) (labels : List (Option (List ℕ))) →
    cond is_match (Some (length (own ∷ labels))) None ≡ cond is_match (Some (length labels + 1)) None
length_step is_match own labels = ap (λ n. cond is_match (Some n) None) (omega arith)

-- with one more label it is one more if the label matches, otherwise None
pub longest-with_label : (is_exception : Bool) (own : Option (List ℕ)) (rules : RuleList) (label : List ℕ) (labels : List (List ℕ)) →
    longest is_exception (with_label own rules) (label ∷ labels) ≡ cond (fits own label) (option_map (λ n. n + 1) (longest is_exception rules labels)) None
longest-with_label is_exception own [] label labels = cond_none (fits own label)
longest-with_label is_exception own (rule ∷ rules) label labels =
    ap (λ count. greater count (longest is_exception (with_label own rules) (label ∷ labels)))
    (length_step (beq rule.is_exception is_exception && (fits own label && matches rule.labels labels)) own rule.labels
    ∙ count_step (beq rule.is_exception is_exception) (fits own label) (matches rule.labels labels) (length rule.labels))
    ∙ ap (greater (cond (fits own label) (option_map (λ n. n + 1) (count_if is_exception rule labels)) None)) (longest-with_label is_exception own rules label labels)
    ∙ greater_if (fits own label) (count_if is_exception rule labels) (longest is_exception rules labels)

-- with one more label nothing matches a domain without labels
pub longest-with_label-none : (is_exception : Bool) (own : Option (List ℕ)) (rules : RuleList) → longest is_exception (with_label own rules) [] ≡ None
longest-with_label-none is_exception own [] = refl
longest-with_label-none is_exception own (rule ∷ rules) =
    ap (λ count. greater count (longest is_exception (with_label own rules) [])) (no_count (length (own ∷ rule.labels)) (beq rule.is_exception is_exception))
    ∙ longest-with_label-none is_exception own rules

-- the rules that end at a node have 0 labels; None if none of the kind ends there
pub longest-ends_here : (is_exception is_rule ends_exception : Bool) (domain : List (List ℕ)) →
    longest is_exception (ends_here is_rule ends_exception) domain ≡ cond (cond is_exception ends_exception is_rule) (Some 0) None
longest-ends_here true true true domain = refl
longest-ends_here true true false domain = refl
longest-ends_here true false true domain = refl
longest-ends_here true false false domain = refl
longest-ends_here false true true domain = refl
longest-ends_here false true false domain = refl
longest-ends_here false false true domain = refl
longest-ends_here false false false domain = refl

-- a matching rule has at most as many labels as the domain
length-le : (own : List (Option (List ℕ))) (domain : List (List ℕ)) → matches own domain ≡ true → length own ≤ length domain
length-le [] domain is = omega arith
length-le (label ∷ own) [] is = cc
length-le (label ∷ own) (first ∷ domain) is = omega (arith, length-le own domain (and_parts (fits label first) (matches own domain) is).1)

-- so the count of one rule is at most that of the domain
count-le : (is_kind is_match : Bool) (n k bound : ℕ) → (is_match ≡ true → n ≤ bound) → cond (is_kind && is_match) (Some n) None ≡ Some k → k ≤ bound
count-le true true n k bound least is = omega (arith, least refl, some_same n k is)
count-le true false n k bound least is = cc
count-le false is_match n k bound least is = cc

-- so is the greater of two
pub greater-le : (a b : Option ℕ) (n bound : ℕ) → ((m : ℕ) → a ≡ Some m → m ≤ bound) → ((m : ℕ) → b ≡ Some m → m ≤ bound) → greater a b ≡ Some n → n ≤ bound
greater-le None b n bound first second is = second n is
greater-le (Some m) None n bound first second is = first n is
greater-le (Some m) (Some k) n bound first second is = omega (arith, first m refl, second k refl, some_same (max m k) n is)

-- so is that of the longest matching rule
pub longest-le : (is_exception : Bool) (rules : RuleList) (domain : List (List ℕ)) (n : ℕ) → longest is_exception rules domain ≡ Some n → n ≤ length domain
longest-le is_exception [] domain n is = cc
longest-le is_exception (rule ∷ rules) domain n is =
    greater-le (count_if is_exception rule domain) (longest is_exception rules domain) n (length domain)
    (λ m same. count-le (beq rule.is_exception is_exception) (matches rule.labels domain) (length rule.labels) m (length domain) (length-le rule.labels domain) same)
    (longest-le is_exception rules domain) is
