-- The rules of a copied tree.
use Rattle.std.proofs.Common.{◌≡◌, ℕ, List, [], ◌∷◌, ◌++◌, refl, ap, sym, ◌∙◌, Some, String, Global, string_bytes, string_cmp, Ordering, Less, Equal, Greater, nat_cmp}
use Rattle.std.specs.BTreeMap.{insert_entry}
use Rattle.std.specs.Cmp.Lexicographic.{slice_cmp}
use Rattle.std.specs.List.{AllByRecursion}
use Rattle.std.specs.List.Sorted.{IsStrictlySortedBy}
use Rattle.std.specs.Map.{keys_of}
use Rattle.std.specs.Ordering.{match_ordering, ordering_reverse}
use Rattle.std.proofs.lemmas.Cmp.{nat_list_cmp_total}
use Rattle.cookie_psl.specs.Rules.{RuleList}
use Rattle.cookie_psl.specs.Tree.{label_rules, tree_rules, with_label}
use Rattle.cookie_psl.specs.declared.tree.Node.{Node}

-- labels as bytes, each with the rules of its tree
abbrev pub kids_view : List (String Global × Node) → List (List ℕ × RuleList)
kids_view [] = []
kids_view (kid ∷ kids) = (string_bytes kid.0, tree_rules kid.1) ∷ kids_view kids

-- the rules under these labels
abbrev viewed_rules : List (List ℕ × RuleList) → RuleList
viewed_rules [] = []
viewed_rules (kid ∷ kids) = with_label (Some kid.0) kid.1 ++ viewed_rules kids

-- they are the rules under the labels
rules_viewed : (kids : List (String Global × Node)) → label_rules kids ≡ viewed_rules (kids_view kids)
rules_viewed [] = refl
rules_viewed (kid ∷ kids) = ap (λ rules. with_label (Some (string_bytes kid.0)) (tree_rules kid.1) ++ rules) (rules_viewed kids)

-- trees with the same view have the same rules
pub same_view : (copies kids : List (String Global × Node)) → kids_view copies ≡ kids_view kids → label_rules copies ≡ label_rules kids
same_view copies kids same = rules_viewed copies ∙ ap viewed_rules same ∙ sym (rules_viewed kids)

-- one more label in its place
abbrev put : List ℕ → RuleList → List (List ℕ × RuleList) → List (List ℕ × RuleList)
put label rules [] = (label, rules) ∷ []
put label rules (kid ∷ kids) = match_ordering (slice_cmp nat_cmp label kid.0) ((label, rules) ∷ kid ∷ kids) ((kid.0, rules) ∷ kids) (kid ∷ put label rules kids)

-- the view of one of three lists
view_match : (order : Ordering) (a b c : List (String Global × Node)) → kids_view (match_ordering order a b c) ≡ match_ordering order (kids_view a) (kids_view b) (kids_view c)
view_match Less a b c = refl
view_match Equal a b c = refl
view_match Greater a b c = refl

-- the view after inserting a tree
pub view_insert : (kids : List (String Global × Node)) (key : String Global) (kid : Node) →
    kids_view (insert_entry string_cmp kids key kid) ≡ put (string_bytes key) (tree_rules kid) (kids_view kids)
view_insert [] key kid = refl
view_insert (first ∷ kids) key kid = view_match (string_cmp key first.0) _ _ _ ∙ rw (view_insert kids key kid)

-- a key is below one later in the order
below_middle : (first : String Global × Node) (kids : List (String Global × Node)) (kid : String Global × Node) (more : List (String Global × Node)) →
    AllByRecursion (λ key. string_cmp first.0 key ≡ Less) (keys_of (kids ++ kid ∷ more)) → string_cmp first.0 kid.0 ≡ Less
below_middle first [] kid more above = above.0
below_middle first (other ∷ kids) kid more above = below_middle first kids kid more above.1

-- a label above all others is inserted last
pub put_last : (done : List (String Global × Node)) (kid : String Global × Node) (more : List (String Global × Node)) → IsStrictlySortedBy string_cmp (keys_of (done ++ kid ∷ more)) →
    put (string_bytes kid.0) (tree_rules kid.1) (kids_view done) ≡ kids_view (done ++ kid ∷ [])
unfolding IsStrictlySortedBy
put_last [] kid more sorted = refl
put_last (first ∷ done) kid more sorted =
    let above : slice_cmp nat_cmp (string_bytes kid.0) (string_bytes first.0) ≡ Greater =
    nat_list_cmp_total.antisymm (string_bytes kid.0) (string_bytes first.0) ∙ ap ordering_reverse (below_middle first done kid more sorted.0) in
    rw above (ap (λ kids. (string_bytes first.0, tree_rules first.1) ∷ kids) (put_last done kid more sorted.1))
