-- The row that is evicted first, as it is stored and in order.
use Rattle.std.proofs.Common.{◌≡◌, ℕ, zero, suc, List, [], ◌∷◌, map, slice_get, Option, Some, None, refl, subst, sym}
use Rattle.std.specs.Prelude.{option_map}
use Rattle.std.specs.List.{AllByRecursion}
use Rattle.ordered_map.specs.Entries.{in_order}
use Rattle.ordered_map.proofs.ByPlace.{in_order_permuted}
use Rattle.cookie_words.specs.Moments.{Moment}
use Rattle.cookie_lookup.specs.Positions.{paths_in_order}
use Rattle.cookie_rows.specs.declared.eviction_order.EvictionOrder.{EvictionOrder}
use Rattle.cookie_rows.specs.Eviction.{EvictionRank, rank_of}
use Rattle.cookie_rows.specs.HeaderItems.{items_in}
use Rattle.cookie_rows.specs.Items.{Item, joined}
use Rattle.cookie_rows.specs.Least.{items_in_paths, stored_at, stored_items}
use Rattle.cookie_rows.specs.Stored.{StoredItems, StoredPaths}
use Rattle.cookie_rows.proofs.All.{all_append, all_from_map, all_moved, all_parts, all_to_map}

-- what holds of each content as stored holds in order
all_in_order : {X : Type 0} (P : X → Type 0) (xs : List (ℕ × X)) → AllByRecursion (λ x. P x.1) xs → AllByRecursion P (in_order xs)
all_in_order P xs a = all_moved P (map (λ x. x.1) xs) (in_order xs) (in_order_permuted xs) (all_to_map (λ x. x.1) P xs a)

module _ (P : Item → Type 0) where
  -- what holds of the rows of each path as stored holds of them in order
  each_in_order : (ps : StoredPaths) → AllByRecursion P (joined (map (λ p. stored_items p.1.1) ps)) → AllByRecursion (λ p. AllByRecursion P (in_order p.1.1)) ps
  each_in_order [] a = tt
  each_in_order (p ∷ ps) a =
      let parts = all_parts P (stored_items p.1.1) (joined (map (λ p. stored_items p.1.1) ps)) a in
      (all_in_order P p.1.1 (all_from_map (λ i. i.1) P p.1.1 parts.0), each_in_order ps parts.1)

  -- what holds of the rows of each path holds of all
  all_together : (qs : List (List ℕ × StoredItems)) → AllByRecursion (λ q. AllByRecursion P (in_order q.1)) qs → AllByRecursion P (items_in_paths (map (λ p. (p.0, in_order p.1)) qs))
  all_together [] a = tt
  all_together (q ∷ qs) a = all_append P (in_order q.1) (items_in_paths (map (λ p. (p.0, in_order p.1)) qs)) a.0 (all_together qs a.1)

  -- what holds of all rows as stored holds of them in order
  pub all_paths_in_order : (ps : StoredPaths) → AllByRecursion P (joined (map (λ p. stored_items p.1.1) ps)) → AllByRecursion P (items_in_paths (paths_in_order ps))
  all_paths_in_order ps a = all_together (in_order ps) (all_in_order (λ q. AllByRecursion P (in_order q.1)) ps (each_in_order ps a))

-- no rows are stored, and there are none in order
pub none_in_order : (ps : StoredPaths) → joined (map (λ p. stored_items p.1.1) ps) ≡ [] → items_in_paths (paths_in_order ps) ≡ []
none_in_order ps none =
    let nothing = λ (x : Item). ⊥ in
    empty (items_in_paths (paths_in_order ps)) (all_paths_in_order nothing ps (subst (AllByRecursion nothing) (sym none) tt))
  where
    empty : (xs : List Item) → AllByRecursion (λ x. ⊥) xs → xs ≡ []
    empty [] a = refl
    empty (x ∷ xs) a = absurd a.0

module _ (order : EvictionOrder) (now : Moment) where
  -- a row that is found by its rank, in its group
  found_row : (text : List ℕ) (o : Option Item) (rank : EvictionRank) → option_map (rank_of order now) o ≡ Some rank
      → (item : Item) × (option_map {U = List ℕ × Item} (λ i. (text, i)) o ≡ Some (text, item)) × (rank_of order now item ≡ rank)
  found_row text None rank is = absurd (cc)
  found_row text (Some x) rank is = let same : rank_of order now x ≡ rank = cc in (x, refl, same)

  -- the row at the position of the least
  pub least_stored : (ps : StoredPaths) (path row : ℕ) (rank : EvictionRank)
      → option_map (rank_of order now) (slice_get (items_in (slice_get (map (λ p. stored_items p.1.1) ps) path)) row) ≡ Some rank
      → (text : List ℕ) × (item : Item) × (stored_at ps path row ≡ Some (text, item)) × (rank_of order now item ≡ rank)
  least_stored [] path row rank is = absurd (cc)
  least_stored (p ∷ ps) zero row rank is =
      let found = found_row p.1.0 (slice_get (stored_items p.1.1) row) rank is in
      (p.1.0, found.0, found.1, found.2)
  least_stored (p ∷ ps) (suc path) row rank is = least_stored ps path row rank is
