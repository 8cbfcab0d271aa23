-- How many rows there are after a row is stored and others are evicted.
use Rattle.std.proofs.Common.{◌≡◌, ℕ, ◌+◌, ◌≤◌, Bool, List, [], ◌∷◌, ◌++◌, filter, length, Some, None, refl, sym, ◌∙◌, ap, inl, inr, bytes_eq, arith, length-append, IsPermutation}
use Rattle.std.specs.Prelude.{String, string_bytes}
use Rattle.std.specs.List.{flat_map}
use Rattle.std.specs.Map.{lookup, set_value}
use Rattle.std.proofs.lemmas.Bool.{cases_Bool}
use Rattle.std.proofs.lemmas.List.{length_push}
use Rattle.std.proofs.lemmas.List.Concat.{length-flat_map}
use Rattle.std.proofs.lemmas.List.Sorted.{IsPermutation-append_comm, IsPermutation-cons, IsPermutation-refl, sum_by-IsPermutation}
use Rattle.cookie_parts.specs.Cookie.{Row}
use Rattle.cookie_parts.specs.Domain.{domain_text}
use Rattle.cookie_laws.specs.Rows.{key_of}
use Rattle.cookie_rows.specs.GroupChanges.{texts_by, unless_empty}
use Rattle.cookie_rows.specs.Items.{Item, ItemGroups, ItemPaths, find_item_paths, find_items, put_item, put_item_paths, put_items}
use Rattle.cookie_rows.specs.Eviction.{filter_paths, moved_to_end_if}
use Rattle.cookie_rows.specs.Least.{items_in_groups, items_in_paths}
use Rattle.cookie_rows.proofs.FilteredGroups.{parted_first}
use Rattle.cookie_rows.proofs.Leaves.{leaves_filter, length_leaves}
use Rattle.cookie_rows.proofs.Maps.{at_text}
use Rattle.cookie_rows.proofs.StoredThenEvicted.{put_last}

-- the number of rows of a domain
abbrev pub path_count : ItemPaths → ℕ
path_count ps = length (items_in_paths ps)

-- of one group more
count_cons : (text : List ℕ) (xs : List Item) (ps : ItemPaths) → path_count ((text, xs) ∷ ps) ≡ length xs + path_count ps
count_cons text xs ps = length-append xs (items_in_paths ps)

-- after a new row is stored
pub count_put : (row : Row) (n : ℕ) (ps : ItemPaths) → find_item_paths row.path.text row.raw.name ps ≡ None → path_count (put_item_paths row n ps) ≡ path_count ps + 1
count_put row n [] none = refl
count_put row n (p ∷ ps) none = elim (cases_Bool (bytes_eq row.path.text p.0)) [
  | inl e ↦
      let more : length (put_item row n p.1) ≡ length p.1 + 1 = ap length (put_last row n p.1 (rw e at none)) ∙ length_push p.1 (record { row = row; number = n }) in
      rw e (omega (arith, count_cons p.0 (put_item row n p.1) ps, count_cons p.0 p.1 ps, more))
  | inr e ↦
      let more = count_put row n ps (rw e at none) in
      rw e (omega (arith, count_cons p.0 p.1 (put_item_paths row n ps), count_cons p.0 p.1 ps, more))
]

-- groups of which one is moved to the end are the same
moved_permuted : {X : Type 0} (alone : List X → Bool) (text : List ℕ) (gs : List (List ℕ × List X)) → IsPermutation gs (moved_to_end_if alone text gs)
moved_permuted alone text [] = IsPermutation-refl []
moved_permuted alone text (g ∷ gs) = elim (cases_Bool (bytes_eq text g.0)) [
  | inl e ↦ elim (cases_Bool (alone g.1)) [
    | inl a ↦ rw (e, a) (IsPermutation-append_comm (g ∷ []) gs)
    | inr a ↦ rw (e, a) (IsPermutation-refl (g ∷ gs))
  ]
  | inr e ↦ rw e (IsPermutation-cons g gs (moved_to_end_if alone text gs) (moved_permuted alone text gs))
]

-- so there are as many of what is listed of each
count_listed : {A T : Type 0} (list : A → List T) (xs ys : List A) → IsPermutation xs ys → length (flat_map list ys) ≡ length (flat_map list xs)
count_listed list xs ys moved = length-flat_map list ys ∙ sum_by-IsPermutation (λ x. length (list x)) xs ys moved ∙ sym (length-flat_map list xs)

-- after a group is moved to the end
pub count_moved : (alone : List Item → Bool) (text : List ℕ) (ps : ItemPaths) → path_count (moved_to_end_if alone text ps) ≡ path_count ps
count_moved alone text ps = count_listed (λ (p : List ℕ × List Item). p.1) ps (moved_to_end_if alone text ps) (moved_permuted alone text ps)

-- a filter leaves no more
pub fewer : {T : Type 0} (test : T → Bool) (xs : List T) → length (filter test xs) ≤ length xs
fewer test xs = length_leaves xs (filter test xs) (leaves_filter test xs)

-- the rows of a group that may be empty, and of others
pub rows_unless : (text : List ℕ) (xs : List Item) (ps : ItemPaths) → items_in_paths (unless_empty text xs ps) ≡ xs ++ items_in_paths ps
rows_unless text [] ps = refl
rows_unless text (x ∷ xs) ps = refl

count_filtered : (test : Item → Bool) (ps : ItemPaths) → path_count (filter_paths test ps) ≤ path_count ps
count_filtered test [] = omega arith
count_filtered test (p ∷ ps) =
    let rest = filter_paths test ps in
    let all : path_count (filter_paths test (p ∷ ps)) ≡ length (filter test p.1) + path_count rest
    = ap path_count (parted_first (filter test) p ps) ∙ ap length (rows_unless p.0 (filter test p.1) rest) ∙ length-append (filter test p.1) (items_in_paths rest) in
    omega (arith, all, count_cons p.0 p.1 ps, fewer test p.1, count_filtered test ps)

-- so when rows are evicted for a new one there is at most one more
pub count_evicted : (row : Row) (n : ℕ) (ps : ItemPaths) (test : Item → Bool) → find_item_paths row.path.text row.raw.name ps ≡ None → path_count (filter_paths test (put_item_paths row n ps)) ≤ path_count ps + 1
count_evicted row n ps test none = omega (arith, count_filtered test (put_item_paths row n ps), count_put row n ps none)

-- the number of rows of all domains
abbrev pub group_count : ItemGroups → ℕ
group_count gs = length (items_in_groups gs)

-- of one domain more
groups_cons : (d : List ℕ) (ps : ItemPaths) (gs : ItemGroups) → group_count ((d, ps) ∷ gs) ≡ path_count ps + group_count gs
groups_cons d ps gs = length-append (items_in_paths ps) (items_in_groups gs)

-- after a domain is moved to the end
pub groups_moved : (alone : ItemPaths → Bool) (text : List ℕ) (gs : ItemGroups) → group_count (moved_to_end_if alone text gs) ≡ group_count gs
groups_moved alone text gs = count_listed (λ (g : List ℕ × ItemPaths). items_in_paths g.1) gs (moved_to_end_if alone text gs) (moved_permuted alone text gs)

-- after a new row is stored
pub groups_put : (row : Row) (n : ℕ) (gs : ItemGroups) → find_items (key_of row) gs ≡ None → group_count (put_items row n gs) ≡ group_count gs + 1
groups_put row n [] none = refl
groups_put row n (g ∷ gs) none = elim (cases_Bool (bytes_eq (domain_text row.domain) g.0)) [
  | inl e ↦ rw e (omega (arith, groups_cons g.0 (put_item_paths row n g.1) gs, groups_cons g.0 g.1 gs, count_put row n g.1 (rw e at none)))
  | inr e ↦ rw e (omega (arith, groups_cons g.0 g.1 (put_items row n gs), groups_cons g.0 g.1 gs, groups_put row n gs (rw e at none)))
]

-- In this module `g` is what a value of the map has in order.
module _ {A V : Type 0} (g : V → ItemPaths) (d : List ℕ) where
  -- after the groups of a domain are written
  groups_set : (es : List (String A × V)) (old new : V) → Some old ≡ lookup (at_text d) es
      → group_count (texts_by g (set_value (at_text d) es new)) + path_count (g old) ≡ group_count (texts_by g es) + path_count (g new)
  groups_set [] old new there = absurd (cc)
  groups_set (e ∷ es) old new there = elim (cases_Bool (at_text d e.0)) [
    | inl t ↦
        let there' = rw t at there in
        let same : old ≡ e.1 = cc in
        let text = string_bytes e.0 in
        rw t (omega (arith, groups_cons text (g new) (texts_by g es), groups_cons text (g e.1) (texts_by g es), ap (λ v. path_count (g v)) same))
    | inr t ↦
        let there' = rw t at there in
        let text = string_bytes e.0 in
        rw t (omega (arith, groups_cons text (g e.1) (texts_by g (set_value (at_text d) es new)), groups_cons text (g e.1) (texts_by g es), groups_set es old new there'))
  ]

  -- after rows of a domain are evicted for a new one
  pub groups_evicted : (es : List (String A × V)) (old new : V) (evicted : ℕ) → Some old ≡ lookup (at_text d) es → path_count (g new) + evicted ≡ path_count (g old) + 1
      → group_count (texts_by g (set_value (at_text d) es new)) + evicted ≡ group_count (texts_by g es) + 1
  groups_evicted es old new evicted there counts = omega (arith, groups_set es old new there, counts)
