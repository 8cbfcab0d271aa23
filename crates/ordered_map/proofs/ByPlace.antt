-- The entries in the order of insertion are those by position, sorted by their places.
use Rattle.std.proofs.Common.{◌≡◌, ◌≢◌, ℕ, zero, suc, ◌+◌, ◌<◌, ◌≤◌, cond, leb, true, false, List, [], ◌∷◌, ◌++◌, length, get_or, take, drop, map, slice_get, Some, refl, sym, ap, subst, ◌∙◌, arith, ⊎_elim, IsPermutation, String}
use Rattle.std.specs.List.{flat_map, AllByRecursion, IsDistinct}
use Rattle.std.specs.Map.{keys_of, lookup}
use Rattle.std.specs.String.{string_eq, string_eq_equiv}
use Rattle.std.specs.declared.alloc.Global.{Global}
use Rattle.std.proofs.lemmas.Bool.{cases_lt, le-leb, lt-leb}
use Rattle.std.proofs.lemmas.List.{drop_all, drop_more, get_or-take, get_or-drop, length-map, length-take}
use Rattle.std.proofs.lemmas.List.Sorted.{length_permutation, IsPermutation-refl, IsPermutation-cons, IsPermutation-map, IsPermutation-middle, IsPermutation-trans}
use Rattle.std.proofs.lemmas.Option.{get_or_from_slice_get, slice_get_within}
use Rattle.indexmap.proofs.MapLemmas.{distinct_permutation, lookup_permutation}
use Rattle.ordered_map.specs.Entries.{by_place, in_order, insert_by_place, is_text}
use Rattle.ordered_map.specs.Layout.{at_position, at_positions, gap_position, IsOrdered}
use Rattle.ordered_map.proofs.Around.{place_of_position, place_within, position_at_place}
use Rattle.ordered_map.proofs.Found.{is_key_test}
use Rattle.ordered_map.proofs.FlatMaps.{all_at_position, all_flat_map, at_position_here, at_position_past, at_within, flat_map_at, flat_map_same, same_after, same_before}

-- an element's place, and the element without it
abbrev pub place_of : {X : Type 0} → ℕ × X → ℕ
place_of p = p.0

abbrev pub without_place : {X : Type 0} → ℕ × X → X
without_place p = p.1

module _ {X : Type 0} (x : ℕ × X) where
  -- after those with smaller places, and before those with greater ones
  inserted : (ls bs : List (ℕ × X)) → AllByRecursion (λ y. y.0 < x.0) ls → AllByRecursion (λ y. x.0 < y.0) bs → insert_by_place x (ls ++ bs) ≡ ls ++ x ∷ bs
  inserted [] [] a b = refl
  inserted [] (y ∷ bs) a b = ap (λ c. cond c (x ∷ y ∷ bs) (y ∷ insert_by_place x bs)) (le-leb x.0 y.0 (omega (arith, b.0)))
  inserted (y ∷ ls) bs a b = ap (λ c. cond c (x ∷ y ∷ (ls ++ bs)) (y ∷ insert_by_place x (ls ++ bs))) (lt-leb x.0 y.0 a.0) ∙ ap (λ l. y ∷ l) (inserted ls bs a.1 b)

  insert_permuted : (ys : List (ℕ × X)) → IsPermutation (x ∷ ys) (insert_by_place x ys)
  insert_permuted [] = IsPermutation-refl (x ∷ [])
  insert_permuted (y ∷ ys) = elim (leb x.0 y.0) as (λ c. IsPermutation (x ∷ y ∷ ys) (cond c (x ∷ y ∷ ys) (y ∷ insert_by_place x ys))) [
    | true ↦ IsPermutation-refl (x ∷ y ∷ ys)
    | false ↦ IsPermutation-trans _ _ _ (IsPermutation-middle (x ∷ []) y ys) (IsPermutation-cons y _ _ (insert_permuted ys))
  ]

module _ {X : Type 0} where
  by_place_permuted : (xs : List (ℕ × X)) → IsPermutation xs (by_place xs)
  by_place_permuted [] = IsPermutation-refl []
  by_place_permuted (x ∷ xs) = IsPermutation-trans _ _ _ (IsPermutation-cons x _ _ (by_place_permuted xs)) (insert_permuted x (by_place xs))

  -- the same elements, in another order
  pub in_order_permuted : (xs : List (ℕ × X)) → IsPermutation (map without_place xs) (in_order xs)
  in_order_permuted xs = IsPermutation-map without_place xs (by_place xs) (by_place_permuted xs)

  pub length_in_order : (xs : List (ℕ × X)) → length (in_order xs) ≡ length xs
  length_in_order xs = length_permutation _ _ (in_order_permuted xs) ∙ length-map xs without_place

module _ {V : Type 0} where
  pub keys_are : (ps : List (ℕ × (String Global × V))) → keys_of (map without_place ps) ≡ map (λ p. p.1.0) ps
  keys_are [] = refl
  keys_are (p ∷ ps) = ap (λ l. p.1.0 ∷ l) (keys_are ps)

  module _ (ps : List (ℕ × (String Global × V))) (distinct : IsDistinct string_eq (map (λ p. p.1.0) ps)) where
    -- the keys differ in the order of insertion too
    pub in_order_distinct : IsDistinct string_eq (keys_of (in_order ps))
    in_order_distinct = distinct_permutation string_eq_equiv _ _ (IsPermutation-map (λ e. e.0) _ _ (in_order_permuted ps)) (subst (IsDistinct string_eq) (sym (keys_are ps)) distinct)

    -- the value of a key is the same in order and by position
    pub lookup_in_order : (text : List ℕ) → lookup (is_text text) (in_order ps) ≡ lookup (is_text text) (map without_place ps)
    lookup_in_order text = lookup_permutation string_eq_equiv (map without_place ps) (in_order ps) (in_order_permuted ps) in_order_distinct (is_text text) (is_key_test text)

module _ {Y : Type 0} (xs : List (ℕ × Y)) (order : List ℕ) (h : IsOrdered (map place_of xs) order) where
  -- the elements from position n on
  abbrev from : ℕ → ℕ → List (ℕ × Y)
  from n j = cond (leb n j) (at_position xs j) []

  from_next : (n j : ℕ) → j ≢ n → from n j ≡ from (suc n) j
  from_next n j ne = ap (λ c. cond c (at_position xs j) []) (⊎_elim
      (λ (l : j < n). lt-leb n j l ∙ sym (lt-leb (suc n) j (omega arith)))
      (λ (l : n ≤ j). le-leb n j l ∙ sym (le-leb (suc n) j (omega arith)))
      (cases_lt j n))

  each_from : (P : ℕ × Y → Type 0) (n j : ℕ) → ((y : ℕ × Y) → slice_get xs j ≡ Some y → P y) → AllByRecursion P (from n j)
  each_from P n j each = elim (leb n j) as (λ c. AllByRecursion P (cond c (at_position xs j) [])) [ true ↦ all_at_position P xs j each | false ↦ tt ]

  module _ (n : ℕ) (x : ℕ × Y) (is : slice_get xs n ≡ Some x) where
    others : (k : ℕ) → k ≢ x.0 → from n (get_or order k gap_position) ≡ from (suc n) (get_or order k gap_position)
    others k ne = from_next n _ (λ same. ne (sym (place_of_position place_of xs order h k x (ap (slice_get xs) same ∙ is))))

    smaller : AllByRecursion (λ y. y.0 < x.0) (flat_map (from (suc n)) (take x.0 order))
    smaller = all_flat_map _ (from (suc n)) gap_position (take x.0 order) (λ k l.
        let below : k < x.0 = omega (arith, length-take x.0 order) in
        each_from _ (suc n) _ (λ y e. omega (arith, place_of_position place_of xs order h k y (ap (slice_get xs) (sym (get_or-take x.0 order k gap_position below)) ∙ e))))

    greater : AllByRecursion (λ y. x.0 < y.0) (flat_map (from (suc n)) (drop (suc x.0) order))
    greater = all_flat_map _ (from (suc n)) gap_position (drop (suc x.0) order) (λ k l.
        each_from _ (suc n) _ (λ y e. omega (arith, place_of_position place_of xs order h (suc x.0 + k) y (ap (slice_get xs) (sym (get_or-drop (suc x.0) order k gap_position)) ∙ e))))

    one_more : flat_map (from (suc n)) order ≡ by_place (drop (n + 1) xs) → flat_map (from n) order ≡ by_place (drop n xs)
    one_more rest =
        let A = flat_map (from (suc n)) (take x.0 order) in
        let B = flat_map (from (suc n)) (drop (suc x.0) order) in
        let in' = place_within place_of xs order h n x is in
        let here = position_at_place place_of xs order h n x is in
        let now : from n (get_or order x.0 gap_position) ≡ x ∷ [] = ap (from n) here ∙ ap (λ c. cond c (at_position xs n) []) (le-leb n n (omega arith)) ∙ at_position_here xs n x is in
        let gone : from (suc n) (get_or order x.0 gap_position) ≡ [] = ap (from (suc n)) here ∙ ap (λ c. cond c (at_position xs n) []) (lt-leb (suc n) n (omega arith)) in
        let first = same_before (from n) (from (suc n)) gap_position order order refl x.0 others in
        let last = same_after (from n) (from (suc n)) gap_position order order refl x.0 others in
        let head : get_or xs n x ≡ x = get_or_from_slice_get xs n x x is in
        flat_map_at (from n) gap_position order x.0 in'
        ∙ (λ i. first i ++ (now i ++ last i))
        ∙ sym (inserted x A B smaller greater)
        ∙ ap (insert_by_place x) (sym (flat_map_at (from (suc n)) gap_position order x.0 in' ∙ ap (λ m. A ++ (m ++ B)) gone) ∙ rest)
        ∙ sym (ap by_place (drop_more xs n x (slice_get_within xs n x is) ∙ ap (λ y. y ∷ drop (n + 1) xs) head))

  past_end : (n : ℕ) → length xs ≤ n → (ks : List ℕ) → flat_map (from n) ks ≡ []
  past_end n l [] = refl
  past_end n l (k ∷ ks) = ⊎_elim
      (λ (b : k < n). ap (λ c. cond c (at_position xs k) [] ++ flat_map (from n) ks) (lt-leb n k b) ∙ past_end n l ks)
      (λ (b : n ≤ k). (λ i. cond (leb n k) (at_position_past xs k (omega (arith, b, l)) i) [] ++ flat_map (from n) ks) ∙ ap (λ c. cond c [] [] ++ flat_map (from n) ks) (le-leb n k b) ∙ past_end n l ks)
      (cases_lt k n)

  sorted_from : (m n : ℕ) → m + n ≡ length xs → flat_map (from n) order ≡ by_place (drop n xs)
  sorted_from zero n e = past_end n (omega (arith, e)) order ∙ sym (ap by_place (drop_all n xs (omega (arith, e))))
  sorted_from (suc m) n e =
      let w = at_within xs n (omega (arith, e)) in
      let next : suc n ≡ n + 1 = omega arith in
      one_more n w.0 w.1 (sorted_from m (suc n) (omega (arith, e)) ∙ ap (λ k. by_place (drop k xs)) next)

  pub sorted_by_place : map without_place (at_positions xs order) ≡ in_order xs
  sorted_by_place = ap (map without_place)
      (flat_map_same (at_position xs) (from 0) gap_position order order refl (λ k l. sym (ap (λ c. cond c (at_position xs (get_or order k gap_position)) []) (le-leb 0 _ (omega arith)))) ∙ sorted_from (length xs) 0 (omega arith))
