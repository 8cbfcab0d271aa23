-- The rules of a tree of labels.
use Rattle.std.specs.Prelude.{ℕ, Bool, true, false, List, [], ◌∷◌, ◌++◌, map, reverse, option_map, Option, Some, None, Box, String, string_bytes, if◌then◌else◌}
use denote.Ref.{Bor}
use Rattle.std.specs.declared.alloc.Global.{Global}
use Rattle.cookie_psl.specs.Rules.{Rule, RuleList, labels_of}
use Rattle.cookie_psl.specs.declared.tree.Node.{Node, fold-Node}
use Rattle.cookie_psl.specs.declared.tree.Node.TheOpen.{Node-F}

-- a rule with one more label after its last
abbrev pub with_last : Option (List ℕ) → Rule → Rule
with_last label rule = record { is_exception = rule.is_exception; labels = label ∷ rule.labels }

-- rules with one more label after their last
abbrev pub with_label : Option (List ℕ) → RuleList → RuleList
with_label label rules = map (with_last label) rules

-- the rules under each label
abbrev pub under_labels : List (String Global × RuleList) → RuleList
under_labels [] = []
under_labels (kid ∷ kids) = with_label (Some (string_bytes kid.0)) kid.1 ++ under_labels kids

-- the rules under `*`
abbrev pub under_any : Option (Box RuleList Global) → RuleList
under_any None = []
under_any (Some rules) = with_label None rules.value

-- the rule without labels, if there is one
abbrev pub rule_if : Bool → Bool → RuleList
rule_if is_there is_exception = if is_there then record { is_exception = is_exception; labels = [] } ∷ [] else []

-- the rules that end at a node
abbrev pub ends_here : Bool → Bool → RuleList
ends_here is_rule is_exception = rule_if is_rule false ++ rule_if is_exception true

-- the rules of a node, given those of each tree below it
abbrev pub tree_step : Node-F RuleList → RuleList
tree_step node = under_labels node.kids.entries ++ under_any node.any ++ ends_here node.is_rule node.is_exception

-- the rules of a tree
abbrev pub tree_rules : Node → RuleList
tree_rules = fold-Node RuleList tree_step

-- the rules of the trees below a node, by label
abbrev pub label_rules : List (String Global × Node) → RuleList
label_rules kids = under_labels (map (λ kid. (kid.0, tree_rules kid.1)) kids)

-- the labels of a domain that are left, if there are any
abbrev pub labels_left : Option (Bor (List ℕ)) → List (List ℕ)
labels_left None = []
labels_left (Some prefix) = labels_of prefix.now

-- the rules of an optional tree
abbrev pub rules_in : Option Node → RuleList
rules_in None = []
rules_in (Some node) = tree_rules node

-- the rule with these labels, given from first to last
abbrev pub rule_of : Bool → List (Option (String Global)) → Rule
rule_of is_exception labels = record { is_exception = is_exception; labels = reverse (map (option_map string_bytes) labels) }
