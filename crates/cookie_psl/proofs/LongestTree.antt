-- The longest matching rule of a tree, from the subtrees for the domain's last label.
use Rattle.std.proofs.Common.{◌≡◌, ℕ, ◌+◌, ◌≤◌, List, [], ◌∷◌, ◌++◌, length, refl, ap, sym, ◌∙◌, true, false, Bool, cond, Option, Some, None, is_some, String, Box, box_value, arith, option_map, string_bytes, string_cmp, bytes_eq}
use Rattle.std.specs.Bool.{then_some}
use Rattle.std.specs.BTreeMap.{is_at}
use Rattle.std.specs.Cmp.Lexicographic.{slice_cmp}
use Rattle.std.specs.List.{AllByRecursion}
use Rattle.std.specs.List.Sorted.{IsStrictlySortedBy}
use Rattle.std.specs.Map.{keys_of, lookup}
use Rattle.std.specs.Ordering.{is_eq, nat_cmp}
use Rattle.std.specs.declared.alloc.Global.{Global}
use Rattle.std.specs.declared.cmp.Ordering.TheVariants.{Less}
use Rattle.std.proofs.lemmas.Bool.{false≢true}
use Rattle.std.proofs.lemmas.Map.Keys.{sorted_head, sorted_tail}
use Rattle.std.proofs.lemmas.Map.Text.{is_eq-slice_cmp, text_cmp}
use Rattle.std.proofs.lemmas.Slice.Eq.{bytes_eq-Decides}
use Rattle.cookie_psl.specs.Rules.{greater, longest}
use Rattle.cookie_psl.specs.Tree.{label_rules, tree_rules, with_label, ends_here}
use Rattle.cookie_psl.specs.declared.tree.Node.{Node}
use Rattle.cookie_psl.specs.declared.tree.Node.TheOpen.{Node-F}
use Rattle.cookie_psl.specs.declared.tree.Node.TheViews.{out-Node}
use Rattle.cookie_psl.proofs.GreaterCounts.{greater-none, greater-more}
use Rattle.cookie_psl.proofs.LongestRules.{longest-append, longest-with_label, longest-with_label-none, longest-ends_here, longest-le, greater-le}
use Rattle.cookie_psl.proofs.TreeRules.{any_rules, level_rules, rules_out}

-- the longest matching rule of an optional tree
abbrev pub longest_in : Bool → Option Node → List (List ℕ) → Option ℕ
longest_in is_exception None labels = None
longest_in is_exception (Some node) labels = longest is_exception (tree_rules node) labels

-- tests that imply each other are equal
same_test : (a b : Bool) → (a ≡ true → b ≡ true) → (b ≡ true → a ≡ true) → a ≡ b
same_test true b there back = sym (there refl)
same_test false true there back = back refl
same_test false false there back = refl

-- comparing labels for equality and in a lookup gives the same result
own_test : (own label : List ℕ) → bytes_eq own label ≡ is_eq (slice_cmp nat_cmp label own)
own_test own label =
    same_test (bytes_eq own label) (bytes_eq label own)
    (λ is. (bytes_eq-Decides label own).1 (sym ((bytes_eq-Decides own label).0 is)))
    (λ is. (bytes_eq-Decides own label).1 (sym ((bytes_eq-Decides label own).0 is)))
    ∙ sym (is_eq-slice_cmp label own)

-- if all keys are greater than the label, no rule under them matches
none_past : (is_exception : Bool) (own : String Global) (kids : List (String Global × Node)) (label : List ℕ) (labels : List (List ℕ)) →
    AllByRecursion (λ key. string_cmp own key ≡ Less) (keys_of kids) → label ≡ string_bytes own → longest is_exception (label_rules kids) (label ∷ labels) ≡ None
none_past is_exception own [] label labels above same = refl
none_past is_exception own (kid ∷ kids) label labels above same =
    longest-append is_exception (with_label (Some (string_bytes kid.0)) (tree_rules kid.1)) (label_rules kids) (label ∷ labels)
    ∙ ap (λ first. greater first (longest is_exception (label_rules kids) (label ∷ labels)))
    (longest-with_label is_exception (Some (string_bytes kid.0)) (tree_rules kid.1) label labels
    ∙ ap (λ test. cond test (option_map (λ n. n + 1) (longest is_exception (tree_rules kid.1) labels)) None)
    (own_test (string_bytes kid.0) label ∙ ap (λ bytes. is_eq (slice_cmp nat_cmp bytes (string_bytes kid.0))) same ∙ ap is_eq above.0))
    ∙ none_past is_exception own kids label labels above.1 same

-- the tree found is the first one, or another
pick : (is_first is_exception : Bool) (kid : Node) (found : Option Node) (labels : List (List ℕ)) (others : Option ℕ) →
    (is_first ≡ true → others ≡ None) → others ≡ option_map (λ n. n + 1) (longest_in is_exception found labels) →
    greater (cond is_first (option_map (λ n. n + 1) (longest is_exception (tree_rules kid) labels)) None) others
    ≡ option_map (λ n. n + 1) (longest_in is_exception (cond is_first (Some kid) found) labels)
pick true is_exception kid found labels others none is =
    ap (greater (option_map (λ n. n + 1) (longest is_exception (tree_rules kid) labels))) (none refl)
    ∙ greater-none (option_map (λ n. n + 1) (longest is_exception (tree_rules kid) labels))
pick false is_exception kid found labels others none is = is

-- under sorted labels it is one more than in the tree of the last label
longest-labels : (is_exception : Bool) (kids : List (String Global × Node)) (label : List ℕ) (labels : List (List ℕ)) → IsStrictlySortedBy string_cmp (keys_of kids) →
    longest is_exception (label_rules kids) (label ∷ labels) ≡ option_map (λ n. n + 1) (longest_in is_exception (lookup (is_at (text_cmp label)) kids) labels)
longest-labels is_exception [] label labels sorted = refl
longest-labels is_exception (kid ∷ kids) label labels sorted =
    longest-append is_exception (with_label (Some (string_bytes kid.0)) (tree_rules kid.1)) (label_rules kids) (label ∷ labels)
    ∙ ap (λ first. greater first (longest is_exception (label_rules kids) (label ∷ labels)))
    (longest-with_label is_exception (Some (string_bytes kid.0)) (tree_rules kid.1) label labels
    ∙ ap (λ test. cond test (option_map (λ n. n + 1) (longest is_exception (tree_rules kid.1) labels)) None) (own_test (string_bytes kid.0) label))
    ∙ pick (is_at (text_cmp label) kid.0) is_exception kid.1 (lookup (is_at (text_cmp label)) kids) labels (longest is_exception (label_rules kids) (label ∷ labels))
    (λ is. none_past is_exception kid.0 kids label labels (sorted_head string_cmp kid.0 (keys_of kids) sorted)
    ((bytes_eq-Decides label (string_bytes kid.0)).0 (sym (is_eq-slice_cmp label (string_bytes kid.0)) ∙ is)))
    (longest-labels is_exception kids label labels (sorted_tail string_cmp kid.0 (keys_of kids) sorted))

-- under labels nothing matches a domain without labels
longest-labels-none : (is_exception : Bool) (kids : List (String Global × Node)) → longest is_exception (label_rules kids) [] ≡ None
longest-labels-none is_exception [] = refl
longest-labels-none is_exception (kid ∷ kids) =
    longest-append is_exception (with_label (Some (string_bytes kid.0)) (tree_rules kid.1)) (label_rules kids) []
    ∙ ap (λ first. greater first (longest is_exception (label_rules kids) [])) (longest-with_label-none is_exception (Some (string_bytes kid.0)) (tree_rules kid.1))
    ∙ longest-labels-none is_exception kids

-- under `*` it is one more than in the tree for `*`
longest-any : (is_exception : Bool) (any : Option (Box Node Global)) (label : List ℕ) (labels : List (List ℕ)) →
    longest is_exception (any_rules any) (label ∷ labels) ≡ option_map (λ n. n + 1) (longest_in is_exception (option_map box_value any) labels)
longest-any is_exception None label labels = refl
longest-any is_exception (Some any) label labels = longest-with_label is_exception None (tree_rules any.value) label labels

-- under `*` nothing matches a domain without labels
longest-any-none : (is_exception : Bool) (any : Option (Box Node Global)) → longest is_exception (any_rules any) [] ≡ None
longest-any-none is_exception None = refl
longest-any-none is_exception (Some any) = longest-with_label-none is_exception None (tree_rules any.value)

-- of a node it is the greatest of those under labels, under `*` and at the node
longest-parts : (is_exception : Bool) (node : Node-F Node) (domain : List (List ℕ)) →
    longest is_exception (level_rules node) domain
    ≡ greater (greater (longest is_exception (label_rules node.kids.entries) domain) (longest is_exception (any_rules node.any) domain))
    (cond (cond is_exception node.is_exception node.is_rule) (Some 0) None)
longest-parts is_exception node domain =
    longest-append is_exception (label_rules node.kids.entries ++ any_rules node.any) (ends_here node.is_rule node.is_exception) domain
    ∙ ap (λ below. greater below (longest is_exception (ends_here node.is_rule node.is_exception) domain))
    (longest-append is_exception (label_rules node.kids.entries) (any_rules node.any) domain)
    ∙ ap (greater (greater (longest is_exception (label_rules node.kids.entries) domain) (longest is_exception (any_rules node.any) domain)))
    (longest-ends_here is_exception node.is_rule node.is_exception domain)

-- if there are no trees below, it is that of the node
nothing_below : (is_exception : Bool) (kids : List (String Global × Node)) (any : Option (Box Node Global)) (here : Option ℕ) (domain : List (List ℕ)) →
    length kids ≡ 0 → is_some any ≡ false →
    greater (greater (longest is_exception (label_rules kids) domain) (longest is_exception (any_rules any) domain)) here ≡ here
nothing_below is_exception [] None here domain no_kids no_any = refl
nothing_below is_exception (kid ∷ kids) any here domain no_kids no_any = absurd (omega arith)
nothing_below is_exception [] (Some any) here domain no_kids no_any = absurd (false≢true (sym no_any))

-- for a domain without labels it is that of the node
pub longest-level-none : (is_exception : Bool) (node : Node-F Node) →
    longest is_exception (level_rules node) [] ≡ cond (cond is_exception node.is_exception node.is_rule) (Some 0) None
longest-level-none is_exception node =
    longest-parts is_exception node []
    ∙ ap (λ below. greater below (cond (cond is_exception node.is_exception node.is_rule) (Some 0) None))
    (ap (λ first. greater first (longest is_exception (any_rules node.any) [])) (longest-labels-none is_exception node.kids.entries) ∙ longest-any-none is_exception node.any)

-- otherwise it is one more than in the subtrees for the last label, or that of the node
pub longest-level : (is_exception : Bool) (node : Node-F Node) (label : List ℕ) (labels : List (List ℕ)) → IsStrictlySortedBy string_cmp (keys_of node.kids.entries) →
    longest is_exception (level_rules node) (label ∷ labels)
    ≡ greater (option_map (λ n. n + 1) (greater (longest_in is_exception (lookup (is_at (text_cmp label)) node.kids.entries) labels) (longest_in is_exception (option_map box_value node.any) labels)))
    (cond (cond is_exception node.is_exception node.is_rule) (Some 0) None)
longest-level is_exception node label labels sorted =
    longest-parts is_exception node (label ∷ labels)
    ∙ ap (λ below. greater below (cond (cond is_exception node.is_exception node.is_rule) (Some 0) None))
    (ap (λ first. greater first (longest is_exception (any_rules node.any) (label ∷ labels))) (longest-labels is_exception node.kids.entries label labels sorted)
    ∙ ap (greater (option_map (λ n. n + 1) (longest_in is_exception (lookup (is_at (text_cmp label)) node.kids.entries) labels))) (longest-any is_exception node.any label labels)
    ∙ greater-more (longest_in is_exception (lookup (is_at (text_cmp label)) node.kids.entries) labels) (longest_in is_exception (option_map box_value node.any) labels))

-- 0 if a rule ends at the node
pub ends_count : (ends own : Bool) → ends ≡ own → then_some {T = ℕ} ends 0 ≡ cond own (Some 0) None
ends_count true own same = ap (λ test. cond test (Some 0) None) same
ends_count false own same = ap (λ test. cond test (Some 0) None) same

-- of a leaf it is that of the node
pub longest-leaf : (is_exception : Bool) (node : Node) (domain : List (List ℕ)) →
    length (out-Node node).kids.entries ≡ 0 → is_some (out-Node node).any ≡ false →
    longest is_exception (tree_rules node) domain ≡ cond (cond is_exception (out-Node node).is_exception (out-Node node).is_rule) (Some 0) None
longest-leaf is_exception node domain no_kids no_any =
    ap (λ rules. longest is_exception rules domain) (rules_out node)
    ∙ longest-parts is_exception (out-Node node) domain
    ∙ nothing_below is_exception (out-Node node).kids.entries (out-Node node).any (cond (cond is_exception (out-Node node).is_exception (out-Node node).is_rule) (Some 0) None) domain no_kids no_any

-- the same for a tree, from the counts of its subtrees
pub longest-found : (is_exception : Bool) (node : Node) (label : List ℕ) (labels : List (List ℕ)) (by_label by_any : Option ℕ) →
    IsStrictlySortedBy string_cmp (keys_of (out-Node node).kids.entries) →
    by_label ≡ longest_in is_exception (lookup (is_at (text_cmp label)) (out-Node node).kids.entries) labels →
    by_any ≡ longest_in is_exception (option_map box_value (out-Node node).any) labels →
    longest is_exception (tree_rules node) (label ∷ labels)
    ≡ greater (option_map (λ n. n + 1) (greater by_label by_any)) (cond (cond is_exception (out-Node node).is_exception (out-Node node).is_rule) (Some 0) None)
longest-found is_exception node label labels by_label by_any sorted is_label is_any =
    ap (λ rules. longest is_exception rules (label ∷ labels)) (rules_out node)
    ∙ longest-level is_exception (out-Node node) label labels sorted
    ∙ ap (λ found. greater (option_map (λ n. n + 1) (greater found (longest_in is_exception (option_map box_value (out-Node node).any) labels)))
    (cond (cond is_exception (out-Node node).is_exception (out-Node node).is_rule) (Some 0) None)) (sym is_label)
    ∙ ap (λ found. greater (option_map (λ n. n + 1) (greater by_label found))
    (cond (cond is_exception (out-Node node).is_exception (out-Node node).is_rule) (Some 0) None)) (sym is_any)

-- the longest matching rule of an optional tree has at most as many labels as the domain
longest_in-le : (is_exception : Bool) (node : Option Node) (labels : List (List ℕ)) (n : ℕ) → longest_in is_exception node labels ≡ Some n → n ≤ length labels
longest_in-le is_exception None labels n is = cc
longest_in-le is_exception (Some node) labels n is = longest-le is_exception (tree_rules node) labels n is

-- so has the longer of two
pub found-le : (is_exception : Bool) (node any : Option Node) (labels : List (List ℕ)) (by_label by_any : Option ℕ) (n : ℕ) →
    by_label ≡ longest_in is_exception node labels → by_any ≡ longest_in is_exception any labels → greater by_label by_any ≡ Some n → n ≤ length labels
found-le is_exception node any labels by_label by_any n is_label is_any is =
    greater-le by_label by_any n (length labels)
    (λ m same. longest_in-le is_exception node labels m (sym is_label ∙ same))
    (λ m same. longest_in-le is_exception any labels m (sym is_any ∙ same)) is
