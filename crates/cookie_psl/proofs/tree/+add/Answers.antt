use Rattle.std.proofs.Common.{◌||◌, ◌++◌, ◌∷◌, [], ap, sym, ◌∙◌, Some, None, option_map, box_value, string_bytes, string_cmp}
use Rattle.std.specs.BTreeMap.{insert_entry}
use Rattle.std.specs.List.{list_any}
use Rattle.cookie_psl.specs.Tree.{rule_of, rules_in, tree_rules, with_last}
use Rattle.cookie_psl.specs.declared.tree.Node.{out-Node}
use Rattle.cookie_psl.specs.declared.tree.Node.TheViews.{out-roll-Node}
use Rattle.cookie_psl.proofs.AddedRules.{rule_push}
use Rattle.cookie_psl.proofs.AddedTree.{added_any, added_kids, added_label}
use Rattle.cookie_psl.proofs.tree.+add.Goals as goal

pub returns-in_ok-insert-in-Some-Some : goal.returns-in_ok-insert-in-Some-Some
returns-in_ok-insert-in-Some-Some t c = λ test.
    added_kids test c.args.node.now c.remove.new.self c.insert.new.self (with_last (Some (string_bytes c.in-Some-Some.label)) (rule_of c.args.is_exception c.pop.new.self.items))
    (added_label test c.as_str.result.now c.in-Some-Some.label (out-Node c.args.node.now).kids.entries c.remove.new.self.entries c.insert.new.self.entries c.add.new.node
    (rule_of c.args.is_exception c.pop.new.self.items) c.as_str.ensures.value c.remove.ensures.entries c.remove.ensures.updates.1
    (c.in_ok-insert-in-Some-Some.ensures.entries ∙ ap (λ level. insert_entry string_cmp level.kids.entries c.in-Some-Some.label c.add.new.node) (out-roll-Node _))
    (λ other. c.in_ok-add-in-Some-Some.ensures other
    ∙ ap (λ rules. other (rule_of c.args.is_exception c.pop.new.self.items) || list_any other rules) (c.or_new-kid.ensures ∙ ap rules_in c.remove.ensures.value)))
    _ (out-roll-Node _)
    ∙ ap (λ rule. test rule || list_any test (tree_rules c.args.node.now))
    (sym (ap (rule_of c.args.is_exception) c.in-Some-Some.ensures.items
    ∙ ap (λ label. rule_of c.args.is_exception (c.pop.new.self.items ++ label ∷ [])) c.in-Some-Some.field-0-is
    ∙ rule_push c.args.is_exception c.pop.new.self.items (Some c.in-Some-Some.label)))

pub returns-in_ok-new-in-Some-None : goal.returns-in_ok-new-in-Some-None
returns-in_ok-new-in-Some-None t c = λ test.
    added_any test c.args.node.now c.in_ok-new-in-Some-None.field-0 (rule_of c.args.is_exception c.pop.new.self.items)
    (λ other. ap (λ any. list_any other (tree_rules any)) c.in_ok-new-in-Some-None.ensures.ok ∙ c.in_ok-add-in-Some-None.ensures other
    ∙ ap (λ rules. other (rule_of c.args.is_exception c.pop.new.self.items) || list_any other rules) (c.or_new-any.ensures ∙ ap rules_in (c.unboxed.ensures ∙ ap (option_map box_value) c.take.ensures.value)))
    c.take.new.self _ (out-roll-Node _)
    ∙ ap (λ rule. test rule || list_any test (tree_rules c.args.node.now))
    (sym (ap (rule_of c.args.is_exception) c.in-Some-None.ensures.items
    ∙ ap (λ label. rule_of c.args.is_exception (c.pop.new.self.items ++ label ∷ [])) c.in-Some-None.field-0-is
    ∙ rule_push c.args.is_exception c.pop.new.self.items None))
