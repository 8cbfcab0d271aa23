-- What is stored at a position.
use Rattle.std.proofs.Common.{◌≡◌, ℕ, zero, suc, ◌+◌, List, [], ◌∷◌, map, slice_get, Some, None, refl, ap, ◌∙◌, arith}
use Rattle.std.specs.Prelude.{option_map, slice_index_or}
use Rattle.cookie_lookup.specs.Positions.{places_of}
use Rattle.cookie_lookup.specs.SearchView.{under}
use Rattle.cookie_rows.specs.Items.{Item}
use Rattle.cookie_rows.specs.Stored.{StoredItems, StoredPaths, indexed, placed_paths, placed_rows}
use Rattle.cookie_rows.proofs.StoredOrder.{changed_content}

module _ {X Y : Type 0} (f : X → Y) where
  -- the place of changed contents
  pub place_there : (xs : List (ℕ × X)) (at : ℕ) → option_map (λ x. x.0) (slice_get xs at) ≡ slice_get (map (λ y. y.0) (map (changed_content f) xs)) at
  place_there [] at = refl
  place_there (x ∷ xs) zero = refl
  place_there (x ∷ xs) (suc at) = place_there xs at

  -- and the contents
  pub content_there : (xs : List (ℕ × X)) (at : ℕ) → option_map (λ x. f x.1) (slice_get xs at) ≡ slice_get (map (λ y. y.1) (map (changed_content f) xs)) at
  content_there [] at = refl
  content_there (x ∷ xs) zero = refl
  content_there (x ∷ xs) (suc at) = content_there xs at

module _ {X : Type 0} where
  -- the place of an element of a list is its index
  pub index_there : (n : ℕ) (xs : List X) (at : ℕ) → option_map (λ x. n + at) (slice_get xs at) ≡ slice_get (map (λ y. y.0) (indexed n xs)) at
  index_there n [] at = refl
  index_there n (x ∷ xs) zero = let here : n + 0 ≡ n = omega arith in ap Some here
  index_there n (x ∷ xs) (suc at) = let next : n + suc at ≡ suc n + at = omega arith in ap (λ m. option_map (λ x. m) (slice_get xs at)) next ∙ index_there (suc n) xs at

-- the row at a position, without its number
pub row_there : (items : StoredItems) (at : ℕ) → option_map (λ (item : Item). item.row) (slice_get (map (λ i. i.1) items) at) ≡ slice_get (map (λ i. i.1.row) items) at
row_there [] at = refl
row_there (i ∷ items) zero = refl
row_there (i ∷ items) (suc at) = row_there items at

-- rows without numbers have the same places
pub same_places : (items : StoredItems) → places_of (placed_rows items) ≡ map (λ i. i.0) items
same_places [] = refl
same_places (i ∷ items) = ap (λ ns. i.0 ∷ ns) (same_places items)

-- past the end of a list there is what is given for nothing
pub none_there : {T : Type 0} (xs : List T) (at : ℕ) (d : T) → None ≡ slice_get xs at → d ≡ slice_index_or xs at d
none_there [] at d none = refl
none_there (x ∷ xs) zero d none = absurd (cc)
none_there (x ∷ xs) (suc at) d none = none_there xs at d none

-- paths without numbers have the same places
pub same_path_places : (ps : StoredPaths) → places_of (placed_paths ps) ≡ map (λ p. p.0) ps
same_path_places [] = refl
same_path_places (p ∷ ps) = ap (λ ns. p.0 ∷ ns) (same_path_places ps)

-- the rows of a path with their places
pub placed_under : (ps : StoredPaths) (at : ℕ) (names : StoredItems) → Some names ≡ slice_get (map (λ p. p.1.1) ps) at → placed_rows names ≡ under at (map (λ p. p.1) (placed_paths ps))
placed_under [] at names there = absurd (cc)
placed_under (p ∷ ps) zero names there = let same : names ≡ p.1.1 = cc in ap placed_rows same
placed_under (p ∷ ps) (suc at) names there = placed_under ps at names there

-- past the end there are none
pub none_under : (ps : StoredPaths) (at : ℕ) → None ≡ slice_get (map (λ p. p.1.1) ps) at → [] ≡ under at (map (λ p. p.1) (placed_paths ps))
none_under [] at none = refl
none_under (p ∷ ps) zero none = absurd (cc)
none_under (p ∷ ps) (suc at) none = none_under ps at none
