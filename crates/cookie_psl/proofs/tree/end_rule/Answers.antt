use Rattle.std.proofs.Common.{◌||◌, [], ap, sym, ◌∙◌, true}
use Rattle.std.specs.List.{list_any}
use Rattle.cookie_psl.specs.Tree.{rule_of, tree_rules}
use Rattle.cookie_psl.specs.declared.tree.Node.{out-Node}
use Rattle.cookie_psl.proofs.AddedRules.{added_exception, added_rule}
use Rattle.cookie_psl.proofs.AddedTree.{added_ends}
use Rattle.cookie_psl.proofs.tree.end_rule.Goals as goal

pub returns-then-is_exception : goal.returns-then-is_exception
returns-then-is_exception c = λ test.
    added_ends test c.args.node.now _ (out-Node c.args.node.now).is_rule true (added_exception test (out-Node c.args.node.now).is_rule (out-Node c.args.node.now).is_exception)
    ∙ ap (λ kind. test (rule_of kind []) || list_any test (tree_rules c.args.node.now)) (sym c.if-is_exception.true)

pub returns-else-is_exception : goal.returns-else-is_exception
returns-else-is_exception c = λ test.
    added_ends test c.args.node.now _ true (out-Node c.args.node.now).is_exception (added_rule test (out-Node c.args.node.now).is_rule (out-Node c.args.node.now).is_exception)
    ∙ ap (λ kind. test (rule_of kind []) || list_any test (tree_rules c.args.node.now)) (sym c.if-is_exception.false)
