-- Rules, and the public suffix of a domain under them, after publicsuffix.org.
use Rattle.std.specs.Prelude.{◌≡◌, ℕ, ◌+◌, ◌-◌, max, ◌==◌, Bool, true, false, ◌&&◌, List, [], ◌∷◌, ◌++◌, length, take, drop, reverse, codes, bytes_eq, nat_eq, Option, Some, None, if◌then◌else◌}
use Rattle.std.specs.Bool.{beq}
use Rattle.std.specs.List.{ends_with, join_with_byte, list_any}
use Rattle.cookie_words.specs.Strings.{pieces}

-- a rule: its labels from last to first; None is the label `*`
pub record Rule : Type 0 where
  pub is_exception : Bool
  pub labels : List (Option (List ℕ))

-- the rules of a list, in the order of its lines
abbrev pub RuleList : Type 0
RuleList = List Rule

-- the rule `*`, which prevails if no other rule matches
abbrev pub default_rule : Rule
default_rule = record { is_exception = false; labels = None ∷ [] }

-- the labels of a domain, from last to first
abbrev pub labels_of : List ℕ → List (List ℕ)
labels_of domain = reverse (pieces 46 domain)

-- a label of a rule matches the same label, and `*` matches any
abbrev pub fits : Option (List ℕ) → List ℕ → Bool
fits None label = true
fits (Some own) label = bytes_eq own label

-- a rule matches a domain if its labels match the domain's last labels, one by one
abbrev pub matches : List (Option (List ℕ)) → List (List ℕ) → Bool
matches [] domain = true
matches (own ∷ more) [] = false
matches (own ∷ more) (label ∷ labels) = fits own label && matches more labels

-- the greater of two optional counts
abbrev pub greater : Option ℕ → Option ℕ → Option ℕ
greater None other = other
greater (Some n) None = Some n
greater (Some n) (Some m) = Some (max n m)

-- the number of labels of a rule, if it is of the kind and matches
abbrev pub count_if : Bool → Rule → List (List ℕ) → Option ℕ
count_if is_exception rule domain =
    if beq rule.is_exception is_exception && matches rule.labels domain then Some (length rule.labels) else None

-- the number of labels of the longest matching rule of the kind: exceptions, or the others
abbrev pub longest : Bool → RuleList → List (List ℕ) → Option ℕ
longest is_exception [] domain = None
longest is_exception (rule ∷ rules) domain =
    greater (count_if is_exception rule domain) (longest is_exception rules domain)

-- the number of labels of the public suffix, and whether a rule of the list matched
pub record Prevailing : Type 0 where
  pub count : ℕ
  pub is_known : Bool

-- without a matching exception the longest matching rule prevails, and without that the rule `*`, which is not listed
abbrev pub by_rule : Option ℕ → Prevailing
by_rule (Some n) = record { count = n; is_known = true }
by_rule None = record { count = 1; is_known = false }

-- the longest matching exception prevails, without its first label
abbrev pub by_exception : Option ℕ → Prevailing → Prevailing
by_exception (Some n) other = record { count = n - 1; is_known = true }
by_exception None other = other

-- the prevailing rule for a domain
abbrev pub prevailing : RuleList → List (List ℕ) → Prevailing
prevailing rules domain = by_exception (longest true rules domain) (by_rule (longest false rules domain))

-- the domain without one trailing dot
abbrev pub without_final_dot : List ℕ → List ℕ
without_final_dot domain = if ends_with nat_eq domain (codes ".") then take (length domain - 1) domain else domain

-- the last `count` labels of a domain, with the dots between them
abbrev pub last_labels : ℕ → List ℕ → List ℕ
last_labels count domain = join_with_byte 46 (drop (length (pieces 46 domain) - count) (pieces 46 domain))

-- the same, with the trailing dot of the domain
abbrev pub ending : ℕ → List ℕ → List ℕ
ending count domain = last_labels count (without_final_dot domain) ++ drop (length (without_final_dot domain)) domain

-- a public suffix, and whether a rule of the list matched
pub record SuffixValue : Type 0 where
  pub text : List ℕ
  pub is_known : Bool

-- the public suffix of a domain, with its trailing dot; None if the domain is empty or a single dot
unfoldable pub suffix_of : RuleList → List ℕ → Option SuffixValue
suffix_of rules domain =
    let bare = without_final_dot domain in
    let found = prevailing rules (labels_of bare) in
    if length bare == 0 then None
    else Some (record { text = ending found.count domain; is_known = found.is_known })

-- the public suffix of a domain and the label before it; None if the domain is its public suffix
unfoldable pub registrable_domain : RuleList → List ℕ → Option (List ℕ)
registrable_domain rules domain =
    let count = (prevailing rules (labels_of (without_final_dot domain))).count in
    if bytes_eq (ending count domain) domain then None else Some (ending (count + 1) domain)

-- the suffix is the whole string, and a rule of the list matched
abbrev pub is_known_and_whole : List ℕ → Option SuffixValue → Bool
is_known_and_whole text None = false
is_known_and_whole text (Some suffix) = suffix.is_known && bytes_eq suffix.text text

-- the domain is a public suffix under the rules
unfoldable pub listed : RuleList → List ℕ → Bool
listed rules text = is_known_and_whole text (suffix_of rules text)

-- lists that hold the same rules, in any order and however often
abbrev pub SameRules : RuleList → RuleList → Type 0
SameRules a b = (test : Rule → Bool) → list_any test a ≡ list_any test b
