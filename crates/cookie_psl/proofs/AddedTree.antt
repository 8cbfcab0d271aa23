-- The rules of a tree after a rule was added.
use Rattle.std.proofs.Common.{◌≡◌, ℕ, ◌||◌, List, [], ◌∷◌, ◌++◌, refl, ap, sym, ◌∙◌, true, false, Bool, cond, Option, Some, None, String, Box, box_value, option_map, string_bytes, string_cmp}
use Rattle.std.specs.BTreeMap.{BTreeMap, is_at, insert_entry}
use Rattle.std.specs.List.{list_any}
use Rattle.std.specs.Map.{lookup, remove_entry}
use Rattle.std.specs.Ordering.{is_eq, match_ordering}
use Rattle.std.specs.declared.alloc.Global.{Global}
use Rattle.std.specs.declared.cmp.Ordering.{Ordering}
use Rattle.std.specs.declared.cmp.Ordering.TheVariants.{Less, Equal, Greater}
use Rattle.std.proofs.lemmas.List.Folds.{list_any-append}
use Rattle.std.proofs.lemmas.Map.Text.{is_eq-slice_cmp, text_cmp}
use Rattle.std.proofs.lemmas.Slice.Eq.{bytes_eq-Decides}
use Rattle.cookie_psl.specs.Rules.{Rule, SameRules}
use Rattle.cookie_psl.specs.Tree.{label_rules, tree_rules, with_last, with_label, ends_here, rules_in}
use Rattle.cookie_psl.specs.declared.tree.Node.{Node}
use Rattle.cookie_psl.specs.declared.tree.Node.TheOpen.{Node-F}
use Rattle.cookie_psl.specs.declared.tree.Node.TheViews.{out-Node, roll-Node}
use Rattle.cookie_psl.proofs.AddedRules.{or_swap, or_assoc, added_first, added_last, added_with_label}
use Rattle.cookie_psl.proofs.TreeRules.{any_rules, rules_out, rules_roll}

-- the tree removed is the first one, or another
take_out : (test : Rule → Bool) (is_first : Bool) (label : List ℕ) (kid : String Global × Node) (kids removed : List (String Global × Node)) (found : Option Node) →
    (is_first ≡ true → string_bytes kid.0 ≡ label) →
    list_any test (label_rules kids) ≡ (list_any test (with_label (Some label) (rules_in found)) || list_any test (label_rules removed)) →
    list_any test (label_rules (kid ∷ kids))
    ≡ (list_any test (with_label (Some label) (rules_in (cond is_first (Some kid.1) found))) || list_any test (label_rules (cond is_first kids (kid ∷ removed))))
take_out test true label kid kids removed found same rest =
    list_any-append test (with_label (Some (string_bytes kid.0)) (tree_rules kid.1)) (label_rules kids)
    ∙ ap (λ own. list_any test (with_label (Some own) (tree_rules kid.1)) || list_any test (label_rules kids)) (same refl)
take_out test false label kid kids removed found same rest =
    list_any-append test (with_label (Some (string_bytes kid.0)) (tree_rules kid.1)) (label_rules kids)
    ∙ ap (λ others. list_any test (with_label (Some (string_bytes kid.0)) (tree_rules kid.1)) || others) rest
    ∙ or_swap (list_any test (with_label (Some (string_bytes kid.0)) (tree_rules kid.1))) (list_any test (with_label (Some label) (rules_in found))) (list_any test (label_rules removed))
    ∙ ap (λ others. list_any test (with_label (Some label) (rules_in found)) || others) (sym (list_any-append test (with_label (Some (string_bytes kid.0)) (tree_rules kid.1)) (label_rules removed)))

-- the rules under labels are those under a removed label and the others
any_removed : (test : Rule → Bool) (label : List ℕ) (kids : List (String Global × Node)) →
    list_any test (label_rules kids)
    ≡ (list_any test (with_label (Some label) (rules_in (lookup (is_at (text_cmp label)) kids))) || list_any test (label_rules (remove_entry (is_at (text_cmp label)) kids)))
any_removed test label [] = refl
any_removed test label (kid ∷ kids) =
    take_out test (is_at (text_cmp label) kid.0) label kid kids (remove_entry (is_at (text_cmp label)) kids) (lookup (is_at (text_cmp label)) kids)
    (λ is. sym ((bytes_eq-Decides label (string_bytes kid.0)).0 (sym (is_eq-slice_cmp label (string_bytes kid.0)) ∙ is)))
    (any_removed test label kids)

-- a tree is inserted before the first one, or after it
put_in : (test : Rule → Bool) (order : Ordering) (key : String Global) (kid : Node) (first : String Global × Node) (kids inserted : List (String Global × Node)) (found : Option Node) →
    cond (is_eq order) (Some first.1) found ≡ None →
    (found ≡ None → list_any test (label_rules inserted) ≡ (list_any test (with_label (Some (string_bytes key)) (tree_rules kid)) || list_any test (label_rules kids))) →
    list_any test (label_rules (match_ordering order ((key, kid) ∷ first ∷ kids) ((first.0, kid) ∷ kids) (first ∷ inserted)))
    ≡ (list_any test (with_label (Some (string_bytes key)) (tree_rules kid)) || list_any test (label_rules (first ∷ kids)))
put_in test Less key kid first kids inserted found none rest = list_any-append test (with_label (Some (string_bytes key)) (tree_rules kid)) (label_rules (first ∷ kids))
put_in test Equal key kid first kids inserted found none rest = cc
put_in test Greater key kid first kids inserted found none rest =
    list_any-append test (with_label (Some (string_bytes first.0)) (tree_rules first.1)) (label_rules inserted)
    ∙ ap (λ others. list_any test (with_label (Some (string_bytes first.0)) (tree_rules first.1)) || others) (rest none)
    ∙ or_swap (list_any test (with_label (Some (string_bytes first.0)) (tree_rules first.1))) (list_any test (with_label (Some (string_bytes key)) (tree_rules kid))) (list_any test (label_rules kids))
    ∙ ap (λ others. list_any test (with_label (Some (string_bytes key)) (tree_rules kid)) || others)
    (sym (list_any-append test (with_label (Some (string_bytes first.0)) (tree_rules first.1)) (label_rules kids)))

-- a tree inserted under a new label adds its rules
any_inserted : (test : Rule → Bool) (key : String Global) (kid : Node) (kids : List (String Global × Node)) → lookup (is_at (string_cmp key)) kids ≡ None →
    list_any test (label_rules (insert_entry string_cmp kids key kid)) ≡ (list_any test (with_label (Some (string_bytes key)) (tree_rules kid)) || list_any test (label_rules kids))
any_inserted test key kid [] none = list_any-append test (with_label (Some (string_bytes key)) (tree_rules kid)) []
any_inserted test key kid (first ∷ kids) none =
    put_in test (string_cmp key first.0) key kid first kids (insert_entry string_cmp kids key kid) (lookup (is_at (string_cmp key)) kids) none (any_inserted test key kid kids)

-- a rule was added under a label
pub added_label : (test : Rule → Bool) (label : List ℕ) (key : String Global) (kids removed inserted : List (String Global × Node)) (kid : Node) (rule : Rule) →
    label ≡ string_bytes key → removed ≡ remove_entry (is_at (text_cmp label)) kids → lookup (is_at (text_cmp label)) removed ≡ None → inserted ≡ insert_entry string_cmp removed key kid →
    SameRules (tree_rules kid) (rule ∷ rules_in (lookup (is_at (text_cmp label)) kids)) →
    list_any test (label_rules inserted) ≡ (test (with_last (Some (string_bytes key)) rule) || list_any test (label_rules kids))
added_label test label key kids removed inserted kid rule is_key is_removed none is_inserted same =
    ap (λ entries. list_any test (label_rules entries)) is_inserted
    ∙ any_inserted test key kid removed (ap (λ own. lookup (is_at (text_cmp own)) removed) (sym is_key) ∙ none)
    ∙ ap (λ found. found || list_any test (label_rules removed)) (added_with_label test (Some (string_bytes key)) rule (tree_rules kid) (rules_in (lookup (is_at (text_cmp label)) kids)) same)
    ∙ or_assoc (test (with_last (Some (string_bytes key)) rule)) (list_any test (with_label (Some (string_bytes key)) (rules_in (lookup (is_at (text_cmp label)) kids)))) (list_any test (label_rules removed))
    ∙ ap (λ found. test (with_last (Some (string_bytes key)) rule) || found)
    (ap (λ own. list_any test (with_label (Some own) (rules_in (lookup (is_at (text_cmp label)) kids))) || list_any test (label_rules removed)) (sym is_key)
    ∙ ap (λ entries. list_any test (with_label (Some label) (rules_in (lookup (is_at (text_cmp label)) kids))) || list_any test (label_rules entries)) is_removed
    ∙ sym (any_removed test label kids))

-- and so to the tree, whose node is changed twice
pub added_kids : (test : Rule → Bool) (node : Node) (removed inserted : BTreeMap (String Global) Node) (rule : Rule) →
    list_any test (label_rules inserted.entries) ≡ (test rule || list_any test (label_rules (out-Node node).kids.entries)) →
    (middle : Node-F Node) → middle ≡ record { kids = removed; any = (out-Node node).any; is_rule = (out-Node node).is_rule; is_exception = (out-Node node).is_exception } →
    list_any test (tree_rules (roll-Node (record { kids = inserted; any = middle.any; is_rule = middle.is_rule; is_exception = middle.is_exception })))
    ≡ (test rule || list_any test (tree_rules node))
added_kids test node removed inserted rule same middle is =
    ap (λ level. list_any test (tree_rules (roll-Node (record { kids = inserted; any = level.any; is_rule = level.is_rule; is_exception = level.is_exception })))) is
    ∙ ap (list_any test) (rules_roll (record { kids = inserted; any = (out-Node node).any; is_rule = (out-Node node).is_rule; is_exception = (out-Node node).is_exception }))
    ∙ added_first test rule (label_rules inserted.entries ++ any_rules (out-Node node).any) (label_rules (out-Node node).kids.entries ++ any_rules (out-Node node).any)
    (ends_here (out-Node node).is_rule (out-Node node).is_exception)
    (added_first test rule (label_rules inserted.entries) (label_rules (out-Node node).kids.entries) (any_rules (out-Node node).any) same)
    ∙ ap (λ rules. test rule || list_any test rules) (sym (rules_out node))

-- the rules under an optional tree for `*`
any_rules_in : (any : Option (Box Node Global)) → any_rules any ≡ with_label None (rules_in (option_map box_value any))
any_rules_in None = refl
any_rules_in (Some any) = refl

-- a rule was added under `*`
pub added_any : (test : Rule → Bool) (node : Node) (any : Box Node Global) (rule : Rule) →
    SameRules (tree_rules any.value) (rule ∷ rules_in (option_map box_value (out-Node node).any)) →
    (taken : Option (Box Node Global)) (middle : Node-F Node) →
    middle ≡ record { kids = (out-Node node).kids; any = taken; is_rule = (out-Node node).is_rule; is_exception = (out-Node node).is_exception } →
    list_any test (tree_rules (roll-Node (record { kids = middle.kids; any = Some any; is_rule = middle.is_rule; is_exception = middle.is_exception })))
    ≡ (test (with_last None rule) || list_any test (tree_rules node))
added_any test node any rule same taken middle is =
    ap (λ level. list_any test (tree_rules (roll-Node (record { kids = level.kids; any = Some any; is_rule = level.is_rule; is_exception = level.is_exception })))) is
    ∙ ap (list_any test) (rules_roll (record { kids = (out-Node node).kids; any = Some any; is_rule = (out-Node node).is_rule; is_exception = (out-Node node).is_exception }))
    ∙ added_first test (with_last None rule) (label_rules (out-Node node).kids.entries ++ any_rules (Some any)) (label_rules (out-Node node).kids.entries ++ any_rules (out-Node node).any)
    (ends_here (out-Node node).is_rule (out-Node node).is_exception)
    (added_last test (with_last None rule) (label_rules (out-Node node).kids.entries) (any_rules (Some any)) (any_rules (out-Node node).any)
    (added_with_label test None rule (tree_rules any.value) (rules_in (option_map box_value (out-Node node).any)) same
    ∙ ap (λ rules. test (with_last None rule) || list_any test rules) (sym (any_rules_in (out-Node node).any))))
    ∙ ap (λ rules. test (with_last None rule) || list_any test rules) (sym (rules_out node))

-- a rule that ends at a node was added
pub added_ends : (test : Rule → Bool) (node : Node) (rule : Rule) (is_rule is_exception : Bool) →
    list_any test (ends_here is_rule is_exception) ≡ (test rule || list_any test (ends_here (out-Node node).is_rule (out-Node node).is_exception)) →
    list_any test (tree_rules (roll-Node (record { kids = (out-Node node).kids; any = (out-Node node).any; is_rule = is_rule; is_exception = is_exception })))
    ≡ (test rule || list_any test (tree_rules node))
added_ends test node rule is_rule is_exception same =
    ap (list_any test) (rules_roll (record { kids = (out-Node node).kids; any = (out-Node node).any; is_rule = is_rule; is_exception = is_exception }))
    ∙ added_last test rule (label_rules (out-Node node).kids.entries ++ any_rules (out-Node node).any) (ends_here is_rule is_exception)
    (ends_here (out-Node node).is_rule (out-Node node).is_exception) same
    ∙ ap (λ rules. test rule || list_any test rules) (sym (rules_out node))
