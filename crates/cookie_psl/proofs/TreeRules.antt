-- The rules of a tree, from its root and the trees below it.
use Rattle.std.proofs.Common.{◌≡◌, [], ◌++◌, refl, ◌∙◌, false, Bool, Option, Some, None, String, Box}
use Rattle.std.specs.BTreeMap.{BTreeMap}
use Rattle.std.specs.declared.alloc.Global.{Global}
use Rattle.cookie_psl.specs.Rules.{RuleList}
use Rattle.cookie_psl.specs.Tree.{label_rules, tree_rules, tree_step, with_label, ends_here}
use Rattle.cookie_psl.specs.declared.tree.Node.{Node}
use Rattle.cookie_psl.specs.declared.tree.Node.TheOpen.{Node-F}
use Rattle.cookie_psl.specs.declared.tree.Node.TheViews.{out-Node, roll-Node}
use Rattle.cookie_psl.specs.declared.tree.Node.TheFolds.{map-Node, fold-roll-Node, fold_out-Node}

-- the rules under a tree for `*`
abbrev pub any_rules : Option (Box Node Global) → RuleList
any_rules None = []
any_rules (Some any) = with_label None (tree_rules any.value)

-- the rules of a node
abbrev pub level_rules : Node-F Node → RuleList
level_rules node = label_rules node.kids.entries ++ any_rules node.any ++ ends_here node.is_rule node.is_exception

-- the rules of a node, given those of the trees below it
level_step : (kids : BTreeMap (String Global) Node) (any : Option (Box Node Global)) (is_rule is_exception : Bool) →
    tree_step (map-Node Node RuleList tree_rules (record { kids = kids; any = any; is_rule = is_rule; is_exception = is_exception }))
    ≡ level_rules (record { kids = kids; any = any; is_rule = is_rule; is_exception = is_exception })
level_step kids None is_rule is_exception = refl
level_step kids (Some any) is_rule is_exception = refl

-- the rules of a tree are those of its root
pub rules_out : (node : Node) → tree_rules node ≡ level_rules (out-Node node)
rules_out node =
    fold_out-Node RuleList tree_step node
    ∙ level_step (out-Node node).kids (out-Node node).any (out-Node node).is_rule (out-Node node).is_exception

-- the same for a tree built from a node
pub rules_roll : (node : Node-F Node) → tree_rules (roll-Node node) ≡ level_rules node
rules_roll node = fold-roll-Node RuleList tree_step node ∙ level_step node.kids node.any node.is_rule node.is_exception

-- an empty tree has no rules
pub rules_of_empty : (kids : BTreeMap (String Global) Node) → kids.entries ≡ [] →
    tree_rules (roll-Node (record { kids = kids; any = None; is_rule = false; is_exception = false })) ≡ []
rules_of_empty kids empty = rules_roll (record { kids = kids; any = None; is_rule = false; is_exception = false }) ∙ rw empty
