-- Ranks that are split around one: sorted, they have it at the same place.
use Rattle.std.proofs.Common.{◌≡◌, ℕ, zero, suc, ◌+◌, ◌-◌, ◌<◌, false, List, [], ◌∷◌, ◌++◌, length, get_or, slice_get, true, Some, refl, sym, ◌∙◌, ap, subst, inl, inr, add-one, arith, IsPermutation, IsSorted}
use Rattle.std.specs.Prelude.{if◌then◌else◌}
use Rattle.std.specs.List.{AllByRecursion}
use Rattle.std.specs.List.Sorted.{IsSplitAround}
use Rattle.std.proofs.lemmas.Bool.{cases_Bool}
use Rattle.std.proofs.lemmas.List.Sorted.{IsPermutation-refl, IsPermutation-sym, IsPermutation-trans, IsPermutation-cons, IsPermutation-middle, IsPermutation-append, length_permutation}
use Rattle.cookie_words.specs.Moments.{Moment}
use Rattle.cookie_rows.specs.Items.{ItemPaths}
use Rattle.cookie_rows.specs.Eviction.{EvictionRank, rank_cmp, comes_before, ranks_of, IsFirstSurvivor}
use Rattle.cookie_rows.specs.declared.eviction_order.EvictionOrder.{EvictionOrder}
use Rattle.cookie_rows.proofs.All.{all_append, all_map, all_moved}
use Rattle.cookie_rows.proofs.RankOrder.{Ascends, all_by_index, not_before_itself, ranks_order}

-- ranks in order

-- a rank before the first that does not come before it
abbrev place_rank : EvictionRank → List EvictionRank → List EvictionRank
place_rank x [] = x ∷ []
place_rank x (y ∷ ys) = if comes_before y x then y ∷ place_rank x ys else x ∷ y ∷ ys

-- ranks, each in its place
abbrev in_order : List EvictionRank → List EvictionRank
in_order [] = []
in_order (x ∷ xs) = place_rank x (in_order xs)

-- a rank in its place is one rank more
place_moved : (x : EvictionRank) (ys : List EvictionRank) → IsPermutation (x ∷ ys) (place_rank x ys)
place_moved x [] = IsPermutation-refl (x ∷ [])
place_moved x (y ∷ ys) = elim (cases_Bool (comes_before y x)) [
  | inl e ↦
      let behind = IsPermutation-sym (y ∷ x ∷ ys) (x ∷ y ∷ ys) (IsPermutation-middle (y ∷ []) x ys) in
      rw e (IsPermutation-trans (x ∷ y ∷ ys) (y ∷ x ∷ ys) (y ∷ place_rank x ys) behind (IsPermutation-cons y (x ∷ ys) (place_rank x ys) (place_moved x ys)))
  | inr e ↦ rw e (IsPermutation-refl (x ∷ y ∷ ys))
]

-- in order there are the same ranks
order_moved : (xs : List EvictionRank) → IsPermutation xs (in_order xs)
order_moved [] = IsPermutation-refl []
order_moved (x ∷ xs) = IsPermutation-trans (x ∷ xs) (x ∷ in_order xs) (place_rank x (in_order xs)) (IsPermutation-cons x xs (in_order xs) (order_moved xs)) (place_moved x (in_order xs))

-- a rank in its place leaves ranks that ascend
ascends_place : (x : EvictionRank) (ys : List EvictionRank) → Ascends ys → Ascends (place_rank x ys)
ascends_place x [] a = (tt, tt)
ascends_place x (y ∷ ys) a = elim (cases_Bool (comes_before y x)) [
  | inl e ↦
      let behind = all_moved (λ z. comes_before z y ≡ false) (x ∷ ys) (place_rank x ys) (place_moved x ys) (ranks_order.one_way y x e, a.0) in
      rw e (behind, ascends_place x ys a.1)
  | inr e ↦
      let behind = all_map (λ z. comes_before z y ≡ false) (λ z. comes_before z x ≡ false) (λ z h. ranks_order.chain z y x h e) ys a.0 in
      rw e ((e, behind), a)
]

-- in order ranks ascend
ascends_order : (xs : List EvictionRank) → Ascends (in_order xs)
ascends_order [] = tt
ascends_order (x ∷ xs) = ascends_place x (in_order xs) (ascends_order xs)

-- ranks that ascend are sorted
sorted_ascends : (xs : List EvictionRank) → Ascends xs → IsSorted rank_cmp xs
sorted_ascends xs a k d low high = rw add-one (each_after xs a k d (omega (arith, high)))
  where
    -- none comes before the one in front of it
    each_after : (xs : List EvictionRank) → Ascends xs → (k : ℕ) (d : EvictionRank) → suc k < length xs → comes_before (get_or xs (suc k) d) (get_or xs k d) ≡ false
    each_after [] a k d l = absurd (omega (arith, l))
    each_after (x ∷ []) a k d l = absurd (omega (arith, l))
    each_after (x ∷ y ∷ ys) a zero d l = a.0.0
    each_after (x ∷ y ∷ ys) a (suc k) d l = each_after (y ∷ ys) a.1 k d (omega (arith, l))

-- a rank between others

-- ranks ascend that are joined at one before which none behind it comes, and which comes before none in front of it
ascends_joined : (front : List EvictionRank) (x : EvictionRank) (back : List EvictionRank) → AllByRecursion (λ y. comes_before x y ≡ false) front → AllByRecursion (λ y. comes_before y x ≡ false) back
    → Ascends front → Ascends back → Ascends (front ++ x ∷ back)
ascends_joined [] x back f b up up' = (b, up')
ascends_joined (y ∷ front) x back f b up up' =
    let behind = all_map (λ z. comes_before z x ≡ false) (λ z. comes_before z y ≡ false) (λ z h. ranks_order.chain z x y h f.0) back b in
    (all_append (λ z. comes_before z y ≡ false) front (x ∷ back) up.0 (f.0, behind), ascends_joined front x back f.1 b up.1 up')

-- it stands where those in front of it end
stands_between : (front : List EvictionRank) (x : EvictionRank) (back : List EvictionRank) → slice_get (front ++ x ∷ back) (length front) ≡ Some x
stands_between [] x back = refl
stands_between (y ∷ front) x back = stands_between front x back

module _ (front : List EvictionRank) (first : EvictionRank) (back : List EvictionRank) where
  -- the ranks in order on both sides of one
  abbrev both_in_order : List EvictionRank
  both_in_order = in_order front ++ first ∷ in_order back

  -- they are the same ranks
  both_moved : IsPermutation (front ++ first ∷ back) both_in_order
  both_moved = IsPermutation-append front (in_order front) (first ∷ back) (first ∷ in_order back) (order_moved front) (IsPermutation-cons first back (in_order back) (order_moved back))

  -- they are sorted, where the ranks were split around that one
  both_sorted : IsSplitAround rank_cmp front first back → IsSorted rank_cmp both_in_order
  both_sorted split =
      let below = all_by_index (λ y. comes_before first y ≡ false) front split.0 in
      let above = all_by_index (λ y. comes_before y first ≡ false) back split.1 in
      let ascends = ascends_joined (in_order front) first (in_order back)
      (all_moved (λ y. comes_before first y ≡ false) front (in_order front) (order_moved front) below)
      (all_moved (λ y. comes_before y first ≡ false) back (in_order back) (order_moved back) above)
      (ascends_order front) (ascends_order back) in
      sorted_ascends both_in_order ascends

  -- of the ranks of a domain and that of a new row, split around one with as many in front as leave, that one is the first that stays
  pub first_between : (limit : ℕ) (order : EvictionOrder) (now : Moment) (rank : EvictionRank) (paths : ItemPaths) → IsPermutation (ranks_of order now paths ++ rank ∷ []) (front ++ first ∷ back)
      → IsSplitAround rank_cmp front first back → length front + limit ≡ length (ranks_of order now paths ++ rank ∷ []) → IsFirstSurvivor limit order now rank paths first
  first_between limit order now rank paths moved split count =
      let unsorted : List EvictionRank = ranks_of order now paths ++ rank ∷ [] in
      let all = IsPermutation-trans unsorted (front ++ first ∷ back) both_in_order moved both_moved in
      let place : length both_in_order - limit ≡ length (in_order front) = omega (arith, count, length_permutation unsorted both_in_order all, length_permutation front (in_order front) (order_moved front)) in
      record {
        ranks = both_in_order;
        moved = all;
        sorted = both_sorted split;
        is = ap (slice_get both_in_order) place ∙ stands_between (in_order front) first (in_order back);
      }

-- the least rank

-- a list that is not empty has a first item
first_of : {T : Type 0} (xs : List T) → 0 < length xs → (x : T) × (ys : List T) × (xs ≡ x ∷ ys)
first_of [] some = absurd (omega (arith, some))
first_of (x ∷ xs) some = (x, xs, refl)

-- a rank that comes before the one after the least, which is the first that survives if as many survive as others come after the least
pub record LeavesLeast (limit : ℕ) (order : EvictionOrder) (now : Moment) (rank least : EvictionRank) (paths : ItemPaths) (others : List EvictionRank) : Type 0 where
  pub first : EvictionRank
  pub survives_first : IsFirstSurvivor limit order now rank paths first
  pub before : comes_before least first ≡ true
  pub after : AllByRecursion (λ y. comes_before y first ≡ false) others

module _ (limit : ℕ) (order : EvictionOrder) (now : Moment) (rank least : EvictionRank) (paths : ItemPaths) (others : List EvictionRank) where
  -- of ranks of which the least comes before all others, and all others survive, the first that survives is the least of these
  pub leaves_least : IsPermutation (ranks_of order now paths ++ rank ∷ []) (least ∷ others) → AllByRecursion (λ y. comes_before least y ≡ true) others → length others ≡ limit → 0 < limit
      → LeavesLeast limit order now rank least paths others
  leaves_least moved after count some =
      let all = order_moved others in
      let same : length (in_order others) ≡ limit = omega (arith, count, length_permutation others (in_order others) all) in
      let head = first_of (in_order others) (omega (arith, same, some)) in
      let up = ascends_order others in
      let sorted : Ascends (least ∷ in_order others)
      = (
        all_map (λ y. comes_before least y ≡ true) (λ y. comes_before y least ≡ false) (λ y h. ranks_order.one_way least y h) (in_order others)
            (all_moved (λ y. comes_before least y ≡ true) others (in_order others) all after),
        up,
      ) in
      let unsorted : List EvictionRank = ranks_of order now paths ++ rank ∷ [] in
      let place : length (least ∷ in_order others) - limit ≡ 1 = omega (arith, same) in
      let first_up = subst Ascends head.2 up in
      let none : AllByRecursion (λ y. comes_before y head.0 ≡ false) (in_order others)
      = subst (AllByRecursion (λ y. comes_before y head.0 ≡ false)) (sym head.2) (not_before_itself head.0, first_up.0) in
      let early = subst (AllByRecursion (λ y. comes_before least y ≡ true)) head.2 (all_moved (λ y. comes_before least y ≡ true) others (in_order others) all after) in
      record {
        first = head.0;
        survives_first = record {
          ranks = least ∷ in_order others;
          moved = IsPermutation-trans unsorted (least ∷ others) (least ∷ in_order others) moved (IsPermutation-cons least others (in_order others) all);
          sorted = sorted_ascends (least ∷ in_order others) sorted;
          is = ap (slice_get (least ∷ in_order others)) place ∙ ap (λ (ts : List EvictionRank). slice_get ts 0) head.2;
        };
        before = early.0;
        after = all_moved (λ y. comes_before y head.0 ≡ false) (in_order others) others (IsPermutation-sym others (in_order others) all) none;
      }
