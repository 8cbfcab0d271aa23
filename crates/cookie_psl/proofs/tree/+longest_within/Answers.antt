use Rattle.std.proofs.Common.{◌≡◌, ℕ, [], ◌+◌, length, ap, arith, sym, ◌∙◌, cond, Some, None, option_map, box_value, option_copied}
use Rattle.std.specs.BTreeMap.{is_at}
use Rattle.std.specs.Map.{lookup}
use Rattle.std.proofs.lemmas.Map.Text.{text_cmp}
use Rattle.cookie_psl.specs.Rules.{greater, longest}
use Rattle.cookie_psl.specs.Tree.{labels_left, tree_rules}
use Rattle.cookie_psl.specs.declared.tree.Node.{out-Node}
use Rattle.cookie_psl.proofs.GreaterCounts.{greater-one}
use Rattle.cookie_psl.proofs.LongestTree.{ends_count, longest-leaf, longest-level-none, longest-found, found-le, longest_in}
use Rattle.cookie_psl.proofs.TreeRules.{rules_out}
use Rattle.cookie_psl.proofs.tree.+longest_within.Goals as goal
use Rattle.cookie_psl.proofs.tree.+longest_within.Goals.{in-Some-get, in-None, in-Some-any, in-None-any}

pub returns-in_default : goal.returns-in_default
returns-in_default t c =
    c.then_some-here.ensures
    ∙ ends_count _ _ c.ends_rule.ensures
    ∙ sym (longest-level-none c.args.is_exception (out-Node c.args.node.now))
    ∙ ap (λ rules. longest c.args.is_exception rules []) (sym (rules_out c.args.node.now))
    ∙ ap (λ left. longest c.args.is_exception (tree_rules c.args.node.now) (labels_left left)) (sym c.in_default.is)

-- the count from the last label, if there is one
by_label : (t : ℕ) (c : goal.In-Some-greater t) →
    c.match-get.by_label ≡ longest_in c.args.is_exception (lookup (is_at (text_cmp c.cut_last.result.1.now)) (out-Node c.args.node.now).kids.entries) (labels_left c.cut_last.result.0)
by_label t c = elim c.match-get.branch [
  | in-Some-get w ↦
      w.by_label-is
      ∙ w.longest_within-by_label.ensures
      ∙ ap (λ found. longest_in c.args.is_exception found (labels_left c.cut_last.result.0)) (sym (ap option_copied w.in-Some-get.is) ∙ c.get.ensures.value)
  | in-None w ↦
      w.by_label-is
      ∙ ap (λ found. longest_in c.args.is_exception found (labels_left c.cut_last.result.0)) (sym (ap option_copied w.in-None.is) ∙ c.get.ensures.value)
]

-- the count from `*`, if there is one
by_any : (t : ℕ) (c : goal.In-Some-greater t) →
    c.match-node.by_any ≡ longest_in c.args.is_exception (option_map box_value (out-Node c.args.node.now).any) (labels_left c.cut_last.result.0)
by_any t c = elim c.match-node.branch [
  | in-Some-any w ↦
      w.by_any-is
      ∙ w.longest_within-by_any.ensures
      ∙ ap (λ any. longest c.args.is_exception (tree_rules any) (labels_left c.cut_last.result.0)) w.deref.ensures
      ∙ ap (λ any. longest_in c.args.is_exception (option_map box_value any) (labels_left c.cut_last.result.0)) (sym w.in-Some-any.is)
  | in-None-any w ↦
      w.by_any-is ∙ ap (λ any. longest_in c.args.is_exception (option_map box_value any) (labels_left c.cut_last.result.0)) (sym w.in-None-any.is)
]

pub overflow_add-result : goal.overflow_add-result
overflow_add-result t c =
    omega (
      arith,
      ap length c.cut_last.ensures,
      ap (λ left. length (labels_left left)) c.in-Some.is,
      found-le _ _ _ _ _ _ c.in-Some-greater.count (by_label t c) (by_any t c) (sym c.greater.ensures ∙ c.in-Some-greater.is),
    )

pub returns-in-Some-greater : goal.returns-in-Some-greater
returns-in-Some-greater t c =
    let level = longest-found c.args.is_exception c.args.node.now c.cut_last.result.1.now (labels_left c.cut_last.result.0) _ _ c.len.ensures.ordered (by_label t c) (by_any t c) in
    sym (greater-one c.in-Some-greater.count (cond c.args.is_exception (out-Node c.args.node.now).is_exception (out-Node c.args.node.now).is_rule))
    ∙ ap (λ found. greater (option_map (λ n. n + 1) found) (cond (cond c.args.is_exception (out-Node c.args.node.now).is_exception (out-Node c.args.node.now).is_rule) (Some 0) None)) (sym c.in-Some-greater.is ∙ c.greater.ensures)
    ∙ sym level
    ∙ ap (longest c.args.is_exception (tree_rules c.args.node.now)) (sym c.cut_last.ensures)
    ∙ ap (λ left. longest c.args.is_exception (tree_rules c.args.node.now) (labels_left left)) (sym c.in-Some.is)

pub returns-then-is_none : goal.returns-then-is_none
returns-then-is_none t c =
    c.then_some-here.ensures
    ∙ ends_count _ _ c.ends_rule.ensures
    ∙ sym (longest-leaf c.args.is_exception c.args.node.now (labels_left c.args.domain) (sym c.len.ensures.len ∙ c.if-len-eq0.true) c.if-is_none.ensures)

pub returns-in-None-greater : goal.returns-in-None-greater
returns-in-None-greater t c =
    let by_label : c.match-get.by_label ≡ longest_in c.args.is_exception (lookup (is_at (text_cmp c.cut_last.result.1.now)) (out-Node c.args.node.now).kids.entries) (labels_left c.cut_last.result.0) =
    elim c.match-get.branch [
      | in-Some-get w ↦ w.by_label-is ∙ w.longest_within-by_label.ensures ∙ ap (λ found. longest_in c.args.is_exception found (labels_left c.cut_last.result.0)) (sym (ap option_copied w.in-Some-get.is) ∙ c.get.ensures.value)
      | in-None w ↦ w.by_label-is ∙ ap (λ found. longest_in c.args.is_exception found (labels_left c.cut_last.result.0)) (sym (ap option_copied w.in-None.is) ∙ c.get.ensures.value)
    ] in
    let by_any : c.match-node.by_any ≡ longest_in c.args.is_exception (option_map box_value (out-Node c.args.node.now).any) (labels_left c.cut_last.result.0) =
    elim c.match-node.branch [
      | in-Some-any w ↦ w.by_any-is ∙ w.longest_within-by_any.ensures ∙ ap (λ any. longest c.args.is_exception (tree_rules any) (labels_left c.cut_last.result.0)) w.deref.ensures ∙ ap (λ any. longest_in c.args.is_exception (option_map box_value any) (labels_left c.cut_last.result.0)) (sym w.in-Some-any.is)
      | in-None-any w ↦ w.by_any-is ∙ ap (λ any. longest_in c.args.is_exception (option_map box_value any) (labels_left c.cut_last.result.0)) (sym w.in-None-any.is)
    ] in
    let level = longest-found c.args.is_exception c.args.node.now c.cut_last.result.1.now (labels_left c.cut_last.result.0) _ _ c.len.ensures.ordered by_label by_any in
    c.then_some-here.ensures
    ∙ ends_count _ _ c.ends_rule.ensures
    ∙ ap (λ found. greater (option_map (λ n. n + 1) found) (cond (cond c.args.is_exception (out-Node c.args.node.now).is_exception (out-Node c.args.node.now).is_rule) (Some 0) None)) (sym c.in-None-greater.is ∙ c.greater.ensures)
    ∙ sym level
    ∙ ap (longest c.args.is_exception (tree_rules c.args.node.now)) (sym c.cut_last.ensures)
    ∙ ap (λ left. longest c.args.is_exception (tree_rules c.args.node.now) (labels_left left)) (sym c.in-Some.is)
