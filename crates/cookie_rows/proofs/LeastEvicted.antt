-- Of as many rows as the limit and a new one, the least is evicted.
use Rattle.std.proofs.Common.{◌≡◌, ℕ, ◌+◌, ◌<◌, Bool, true, false, not, List, [], ◌∷◌, ◌++◌, length, map, filter, refl, sym, ◌∙◌, ap, ap₂, subst, inl, inr, arith, append_assoc, append-nil, IsPermutation, bytes_eq, None}
use Rattle.std.specs.Prelude.{nat_eq}
use Rattle.std.specs.List.{AllByRecursion, list_any}
use Rattle.std.proofs.lemmas.Bool.{and_parts, cases_Bool, not-true, eqb-false}
use Rattle.std.proofs.lemmas.Cmp.{nat_eq_equiv}
use Rattle.std.proofs.lemmas.Grind.{flat_map-append}
use Rattle.std.proofs.lemmas.List.{length-map, map-append}
use Rattle.std.proofs.lemmas.Simd.{map-map}
use Rattle.std.proofs.lemmas.Slice.Eq.{bytes_eq-Decides}
use Rattle.std.proofs.lemmas.List.Sorted.{IsPermutation-append_right, IsPermutation-map, IsPermutation-middle, IsPermutation-refl, IsPermutation-sym, IsPermutation-to_front, IsPermutation-trans, length_permutation}
use Rattle.cookie_words.specs.Moments.{Moment}
use Rattle.cookie_parts.specs.Cookie.{Row}
use Rattle.cookie_parts.specs.Domain.{domain_text}
use Rattle.cookie_laws.specs.Rows.{Key, differ, key_at, same_domain}
use Rattle.cookie_lookup.specs.Groups.{ArePaths, Filled}
use Rattle.cookie_rows.specs.declared.eviction_order.EvictionOrder.{EvictionOrder}
use Rattle.cookie_rows.specs.GroupChanges.{put_at, unless_empty}
use Rattle.cookie_rows.specs.Items.{AreItems, Item, ItemGroups, ItemPaths, bare, bare_paths, find_item_paths, numbered, numbered_paths, put_item_paths, put_items}
use Rattle.cookie_rows.specs.Eviction.{EvictionRank, EvictsInPaths, class_of, comes_before, filter_paths, is_single, moved_to_end_if, paths_of, rank_of, ranks_of, survives}
use Rattle.cookie_rows.specs.Least.{AreNumbered, NoneBefore, RemovesAt, RemovesLeast, items_in_paths}
use Rattle.cookie_rows.proofs.All.{all_both, all_from_map, all_map, all_moved, all_parts, all_to_map}
use Rattle.cookie_rows.proofs.AreItems.{items_put}
use Rattle.cookie_rows.proofs.ChosenRank.{LeavesLeast, leaves_least}
use Rattle.cookie_rows.proofs.Created.{texts_differ}
use Rattle.cookie_rows.proofs.FilteredGroups.{each_fails, filled, parted_first}
use Rattle.cookie_rows.proofs.FilteredItems.{numbered_near}
use Rattle.cookie_rows.proofs.Keyed.{Keyed, filter_all, items_keyed, keyed_paths, numbers_keyed_in}
use Rattle.cookie_rows.proofs.Leaves.{differ_leaves, leaves_filter, leaves_map}
use Rattle.cookie_rows.proofs.Ordered.{differ_moved}
use Rattle.cookie_rows.proofs.RankOrder.{neither_before}
use Rattle.cookie_rows.proofs.RowCounts.{count_put, rows_unless}
use Rattle.cookie_rows.proofs.StoredThenEvicted.{put_last}

-- no group is empty
abbrev AreFilled : ItemPaths → Type 0
AreFilled paths = AllByRecursion (λ p. 0 < length p.1) paths

-- the ranks of a domain are those of its rows
pub ranks_are : (order : EvictionOrder) (now : Moment) (ps : ItemPaths) → ranks_of order now ps ≡ map (rank_of order now) (items_in_paths ps)
ranks_are order now [] = refl
ranks_are order now (p ∷ ps) = ap (λ ts. map (rank_of order now) p.1 ++ ts) (ranks_are order now ps) ∙ sym (map-append (rank_of order now) p.1 (items_in_paths ps))

-- there are as many
pub count_ranks : (order : EvictionOrder) (now : Moment) (ps : ItemPaths) → length (ranks_of order now ps) ≡ length (items_in_paths ps)
count_ranks order now ps = ap length (ranks_are order now ps) ∙ length-map (items_in_paths ps) (rank_of order now)

-- a row is put into groups in which it is new
module _ (row : Row) (n : ℕ) where
  -- the row and its number
  abbrev new : Item
  new = record { row = row; number = n }

  -- the rows after that are the new one and those before
  put_moved : (ps : ItemPaths) → find_item_paths row.path.text row.raw.name ps ≡ None → IsPermutation (items_in_paths (put_item_paths row n ps)) (new ∷ items_in_paths ps)
  put_moved [] none = IsPermutation-refl (new ∷ [])
  put_moved (p ∷ ps) none =
      let rest = items_in_paths ps in
      elim (cases_Bool (bytes_eq row.path.text p.0)) [
        | inl e ↦
            rw e (subst (λ xs. IsPermutation (xs ++ rest) (new ∷ (p.1 ++ rest))) (sym (put_last row n p.1 (rw e at none)))
            (subst (λ xs. IsPermutation xs (new ∷ (p.1 ++ rest))) (sym (append_assoc p.1 (new ∷ []) rest)) (IsPermutation-middle p.1 new rest)))
        | inr e ↦
            rw e (IsPermutation-trans (p.1 ++ items_in_paths (put_item_paths row n ps)) (p.1 ++ new ∷ rest) (new ∷ (p.1 ++ rest))
            (IsPermutation-append_right p.1 (items_in_paths (put_item_paths row n ps)) (new ∷ rest) (put_moved ps (rw e at none))) (IsPermutation-middle p.1 new rest))
      ]

-- a row is taken out of groups

module _ (item : Item) (old left : ItemPaths) (takes : RemovesAt item old left) where
  -- the rows that are left, in their groups
  others_are : items_in_paths left ≡ items_in_paths takes.1 ++ (takes.4 ++ items_in_paths takes.2)
  others_are =
      ap items_in_paths takes.7 ∙ flat_map-append (λ p. p.1) takes.1 (unless_empty takes.0 takes.4 takes.2)
      ∙ ap (λ xs. items_in_paths takes.1 ++ xs) (rows_unless takes.0 takes.4 takes.2)

  -- the rows before are this one and those that are left
  taken_moved : IsPermutation (items_in_paths old) (item ∷ items_in_paths left)
  taken_moved =
      let front = items_in_paths takes.1 in
      let back = items_in_paths takes.2 in
      let out = takes.5 in
      let before =
      ap items_in_paths takes.6 ∙ flat_map-append (λ (p : List ℕ × List Item). p.1) takes.1 ((takes.0, takes.3) ∷ takes.2)
      ∙ ap (λ xs. front ++ (xs ++ back)) out.2 ∙ ap (λ xs. front ++ xs) (append_assoc out.0 (item ∷ out.1) back)
      ∙ sym (append_assoc front out.0 (item ∷ (out.1 ++ back))) in
      let after = others_are ∙ ap (λ xs. front ++ (xs ++ back)) out.3 ∙ ap (λ xs. front ++ xs) (append_assoc out.0 out.1 back) ∙ sym (append_assoc front out.0 (out.1 ++ back)) in
      subst (λ xs. IsPermutation xs (item ∷ items_in_paths left)) (sym before)
      (subst (λ ys. IsPermutation ((front ++ out.0) ++ item ∷ (out.1 ++ back)) (item ∷ ys)) (sym after) (IsPermutation-middle (front ++ out.0) item (out.1 ++ back)))

module _ (test : Item → Bool) where
  -- a row passes
  abbrev Passes : Item → Type 0
  Passes x = test x ≡ true

  -- if all rows of the first groups pass, these are left
  front_left : (front ps : ItemPaths) → AllByRecursion Passes (items_in_paths front) → AreFilled front → filter_paths test (front ++ ps) ≡ front ++ filter_paths test ps
  front_left [] ps a f = refl
  front_left (p ∷ front) ps a f =
      let parts = all_parts Passes p.1 (items_in_paths front) a in
      parted_first (filter test) p (front ++ ps) ∙ ap₂ (λ xs qs. unless_empty p.0 xs qs) (filter_all test p.1 parts.0) (front_left front ps parts.1 f.1)
      ∙ filled p.0 p.1 (front ++ filter_paths test ps) f.0

  -- if all do, all are left
  all_left : (ps : ItemPaths) → AllByRecursion Passes (items_in_paths ps) → AreFilled ps → filter_paths test ps ≡ ps
  all_left ps a f = ap (filter_paths test) (sym (append-nil ps)) ∙ front_left ps [] a f ∙ append-nil ps

  -- if one row of a list fails, the others are left
  one_fails : (front back : List Item) (x : Item) → test x ≡ false → AllByRecursion Passes (front ++ back) → filter test (front ++ x ∷ back) ≡ front ++ back
  one_fails [] back x fails a = rw fails (filter_all test back a)
  one_fails (y ∷ front) back x fails a = rw a.0 (ap (λ ys. y ∷ ys) (one_fails front back x fails a.1))

  -- and so of the rows of a domain
  others_left : (item : Item) (old left : ItemPaths) → RemovesAt item old left → test item ≡ false → AllByRecursion Passes (items_in_paths left) → AreFilled old → filter_paths test old ≡ left
  others_left item old left takes fails a f =
      let out = takes.5 in
      let parts = all_parts Passes (items_in_paths takes.1) (takes.4 ++ items_in_paths takes.2) (subst (AllByRecursion Passes) (others_are item old left takes) a) in
      let rest = all_parts Passes takes.4 (items_in_paths takes.2) parts.1 in
      let filled = all_parts (λ (p : List ℕ × List Item). 0 < length p.1) takes.1 ((takes.0, takes.3) ∷ takes.2) (subst AreFilled takes.6 f) in
      let group = ap (filter test) out.2 ∙ one_fails out.0 out.1 item fails (subst (AllByRecursion Passes) out.3 rest.0) ∙ sym out.3 in
      ap (filter_paths test) takes.6 ∙ front_left takes.1 ((takes.0, takes.3) ∷ takes.2) parts.0 filled.0
      ∙ ap (λ qs. takes.1 ++ qs) (parted_first (filter test) (takes.0, takes.3) takes.2 ∙ ap₂ (λ xs qs. unless_empty takes.0 xs qs) group (all_left takes.2 rest.1 filled.1.1))
      ∙ sym takes.7

module _ (limit : ℕ) (order : EvictionOrder) (now : Moment) (row : Row) (n : ℕ) (paths left : ItemPaths) (item : Item)
    (apart : AreNumbered (put_item_paths row n paths)) (fresh : find_item_paths row.path.text row.raw.name paths ≡ None)
    (count : length (items_in_paths paths) ≡ limit) (some : 0 < limit)
    (none : NoneBefore order now (rank_of order now item) (items_in_paths (put_item_paths row n paths))) (takes : RemovesAt item (put_item_paths row n paths) left) where
  -- the rank of a row
  abbrev rank : Item → EvictionRank
  rank x = rank_of order now x

  -- the rank of the new one
  abbrev new_rank : EvictionRank
  new_rank = (class_of order now row, n)

  -- all rows
  abbrev all : List Item
  all = items_in_paths (put_item_paths row n paths)

  -- the others
  abbrev others : List Item
  others = items_in_paths left

  moved : IsPermutation all (item ∷ others)
  moved = taken_moved item (put_item_paths row n paths) left takes

  -- they have other numbers
  numbers : AllByRecursion (λ y. nat_eq item.number y.number ≡ false) others
  numbers =
      let apart_moved = differ_moved nat_eq nat_eq_equiv.symm (map (λ (y : Item). y.number) all) (map (λ (y : Item). y.number) (item ∷ others))
      (IsPermutation-map (λ (y : Item). y.number) all (item ∷ others) moved) apart.0 in
      let parts = and_parts (not (list_any (nat_eq item.number) (map (λ (y : Item). y.number) others))) (differ nat_eq (map (λ (y : Item). y.number) others)) apart_moved in
      all_from_map (λ (y : Item). y.number) (λ m. nat_eq item.number m ≡ false) others (each_fails (nat_eq item.number) (map (λ (y : Item). y.number) others) (not-true _ parts.0))

  -- and come after it
  later : AllByRecursion (λ y. comes_before (rank item) (rank y) ≡ true) others
  later =
      let not_first = all_moved (λ y. comes_before (rank y) (rank item) ≡ false) all (item ∷ others) moved none in
      all_both (λ y. comes_before (rank y) (rank item) ≡ false) (λ y. nat_eq item.number y.number ≡ false) (λ y. comes_before (rank item) (rank y) ≡ true) comes_later others not_first.1 numbers
    where
      -- of two rows of other numbers one comes before the other
      comes_later : (y : Item) → comes_before (rank y) (rank item) ≡ false → nat_eq item.number y.number ≡ false → comes_before (rank item) (rank y) ≡ true
      comes_later y not_first other = elim (cases_Bool (comes_before (rank item) (rank y))) [
        | inl e ↦ e
        | inr e ↦
            let number : item.number ≡ y.number = ap (λ (t : EvictionRank). t.1) (neither_before (rank item) (rank y) e not_first) in
            absurd (eqb-false item.number y.number other number)
      ]

  -- the ranks are its own and theirs
  ranks_moved : IsPermutation (ranks_of order now paths ++ new_rank ∷ []) (rank item ∷ map rank others)
  ranks_moved =
      let before = items_in_paths paths in
      let with_new = new row n ∷ before in
      IsPermutation-trans (ranks_of order now paths ++ new_rank ∷ []) (map rank with_new) (map rank (item ∷ others))
      (subst (λ ts. IsPermutation (ts ++ new_rank ∷ []) (map rank with_new)) (sym (ranks_are order now paths)) (IsPermutation-to_front (map rank before) new_rank))
      (IsPermutation-map rank with_new (item ∷ others) (IsPermutation-trans with_new all (item ∷ others) (IsPermutation-sym all with_new (put_moved row n paths fresh)) moved))

  -- there are as many others as the limit
  count_left : length others ≡ limit
  count_left = omega (arith, length_permutation all (item ∷ others) moved, count_put row n paths fresh, count)

  -- what is evicted is the least
  leaves : LeavesLeast limit order now new_rank (rank item) paths (map rank others)
  leaves =
      leaves_least limit order now new_rank (rank item) paths (map rank others) ranks_moved (all_to_map rank (λ t. comes_before (rank item) t ≡ true) others later)
      (length-map others rank ∙ count_left) some

  -- so the others are left
  survive : filter_paths (survives order now leaves.first) (put_item_paths row n paths) ≡ left
  survive =
      let test = survives order now leaves.first in
      let pass = all_map (λ y. comes_before (rank y) leaves.first ≡ false) (λ y. test y ≡ true) (λ y h. ap not h) others (all_from_map rank (λ t. comes_before t leaves.first ≡ false) others leaves.after) in
      others_left test item (put_item_paths row n paths) left takes (ap not leaves.before) pass apart.1

  evicts_least : EvictsInPaths limit order now row n paths (moved_to_end_if is_single row.path.text left)
  evicts_least = (leaves.first, leaves.survives_first, omega (arith, count, count_ranks order now paths), ap (moved_to_end_if is_single row.path.text) (sym survive))

-- the least is removed from as many rows as the limit and a new one
module _ (limit : ℕ) (order : EvictionOrder) (now : Moment) (row : Row) (n : ℕ) (paths left : ItemPaths)
    (apart : AreNumbered (put_item_paths row n paths)) (fresh : find_item_paths row.path.text row.raw.name paths ≡ None)
    (count : length (items_in_paths paths) ≡ limit) (some : 0 < limit) (removes : RemovesLeast order now (put_item_paths row n paths) left) where
  -- there is one
  least : (item : Item) × NoneBefore order now (rank_of order now item) (items_in_paths (put_item_paths row n paths)) × RemovesAt item (put_item_paths row n paths) left
  least = elim removes [ inl none ↦ absurd (omega (arith, count_put row n paths fresh, ap length none.0)) | inr found ↦ found ]

  pub evicts_one : EvictsInPaths limit order now row n paths (moved_to_end_if is_single row.path.text left)
  evicts_one = evicts_least limit order now row n paths left least.0 apart fresh count some least.1 least.2

  pub count_one : length (items_in_paths left) ≡ limit
  count_one = count_left limit order now row n paths left least.0 apart fresh count some least.1 least.2

-- groups of rows that form a store

-- the numbers of a domain
numbers_in : (d : List ℕ) (ps : ItemPaths) → map (λ x. x.1) (numbered_paths d ps) ≡ map (λ item. item.number) (items_in_paths ps)
numbers_in d ps =
    ap (map (λ x. x.1)) (numbers_keyed_in d ps) ∙ map-map (λ (x : Key × ℕ). x.1) (λ (e : Keyed). (e.0, e.1.number)) (keyed_paths d ps)
    ∙ sym (map-map (λ (item : Item). item.number) (λ (e : Keyed). e.1) (keyed_paths d ps)) ∙ ap (map (λ item. item.number)) (sym (items_keyed d ps))

-- no group is empty
filled_in : (d : List ℕ) (ps : ItemPaths) → Filled d (bare_paths ps) → AreFilled ps
filled_in d [] f = tt
filled_in d (p ∷ ps) f = (omega (arith, f.0.0, length-map p.1 (λ (item : Item). item.row)), filled_in d ps f.1)

filled_of : (d : List ℕ) (gs : ItemGroups) → AllByRecursion (λ g. (0 < length g.1) × ArePaths g.0 g.1) (bare gs) → AreFilled (paths_of d gs)
filled_of d [] a = tt
filled_of d (g ∷ gs) a = elim (cases_Bool (bytes_eq d g.0)) [ inl e ↦ rw e (filled_in g.0 g.1 a.0.1.1) | inr e ↦ rw e (filled_of d gs a.1) ]

-- the rows of a domain have different numbers, and no group is empty
numbered_of : (n : ℕ) (gs : ItemGroups) → AreItems n gs → (d : List ℕ) → AreNumbered (paths_of d gs)
numbered_of n gs a d =
    let key = key_at d [] [] in
    let near = numbered_near key gs (texts_differ gs a.0).0 in
    let own = filter (λ (x : Key × ℕ). same_domain key x.0) (numbered gs) in (
      ap (differ nat_eq) (sym (numbers_in d (paths_of d gs)) ∙ ap (map (λ x. x.1)) (sym near))
          ∙ differ_leaves nat_eq (map (λ x. x.1) (numbered gs)) (map (λ x. x.1) own) (leaves_map (λ (x : Key × ℕ). x.1) (numbered gs) own (leaves_filter (λ x. same_domain key x.0) (numbered gs))) a.3,
      filled_of d gs a.0.1,
    )

-- the groups of a domain that a change was made to
paths_put : (f : ItemPaths → ItemPaths) (d : List ℕ) (gs : ItemGroups) → paths_of d (put_at f d gs) ≡ f (paths_of d gs)
paths_put f d [] = let here : bytes_eq d d ≡ true = (bytes_eq-Decides d d).1 refl in rw here refl
paths_put f d (g ∷ gs) = elim (cases_Bool (bytes_eq d g.0)) [ inl e ↦ rw (e, e) refl | inr e ↦ rw (e, e) (paths_put f d gs) ]

-- nor have they the same number once a row with the next number is put there
pub numbered_put : (n : ℕ) (gs : ItemGroups) → AreItems n gs → (row : Row) → AreNumbered (put_item_paths row n (paths_of (domain_text row.domain) gs))
numbered_put n gs a row =
    subst AreNumbered (paths_put (put_item_paths row n) (domain_text row.domain) gs)
    (numbered_of (n + 1) (put_items row n gs) (items_put n gs a row (n + 1) (inl refl)) (domain_text row.domain))
