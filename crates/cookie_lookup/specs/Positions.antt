-- Positions in any order, and groups with places: as they are stored, and in the order of places.
use Rattle.std.specs.Prelude.{◌≡◌, ℕ, List, map, slice_index_or}
use Rattle.std.specs.List.{sum_by}
use Rattle.std.specs.Ordering.{nat_cmp, ordering_then}
use Rattle.std.specs.declared.cmp.Ordering.{Ordering}
use Rattle.ordered_map.specs.Entries.{in_order}
use Rattle.cookie_lookup.specs.SearchView.{RowPosition, under}

-- two lists have the same positions, each equally often, in any order
abbrev pub SamePositions : List RowPosition → List RowPosition → Type 0
SamePositions xs ys = (f : RowPosition → ℕ) → sum_by f xs ≡ sum_by f ys

-- groups with places

-- elements, each with its place in the order of insertion
abbrev pub Placed : Type 0 → Type 0
Placed X = List (ℕ × X)

-- the groups of a domain, each with its place and its path
abbrev pub PlacedPaths : Type 0 → Type 0
PlacedPaths X = Placed (List ℕ × Placed X)

-- all groups, each with its place and its domain
abbrev pub PlacedGroups : Type 0 → Type 0
PlacedGroups X = Placed (List ℕ × PlacedPaths X)

module _ {X : Type 0} where
  -- the elements without places, as they are stored
  abbrev pub without_places : Placed X → List X
  without_places elements = map (λ x. x.1) elements

  -- the groups of a domain as they are stored, without places
  abbrev pub paths_by_position : PlacedPaths X → List (List ℕ × List X)
  paths_by_position paths = map (λ p. (p.1.0, without_places p.1.1)) paths

  -- all groups as they are stored, without places
  abbrev pub groups_by_position : PlacedGroups X → List (List ℕ × List (List ℕ × List X))
  groups_by_position placed = map (λ g. (g.1.0, paths_by_position g.1.1)) placed

  -- the groups of a domain in the order of places, and the elements of each
  abbrev pub paths_in_order : PlacedPaths X → List (List ℕ × List X)
  paths_in_order paths = map (λ p. (p.0, in_order p.1)) (in_order paths)

  -- all groups in the order of places, and the groups of each domain
  abbrev pub groups_in_order : PlacedGroups X → List (List ℕ × List (List ℕ × List X))
  groups_in_order placed = map (λ g. (g.0, paths_in_order g.1)) (in_order placed)

-- positions in the order of places

-- the places
abbrev pub places_of : {X : Type 0} → Placed X → List ℕ
places_of entries = map (λ x. x.0) entries

-- the place of the nth entry, or 0 if there are fewer
abbrev pub nth_place : {X : Type 0} → Placed X → ℕ → ℕ
nth_place entries n = slice_index_or (places_of entries) n 0

-- the order of entries at two positions: by place, then by position
abbrev pub entry_order : {X : Type 0} → Placed X → ℕ → ℕ → Ordering
entry_order entries a b = ordering_then (nat_cmp (nth_place entries a) (nth_place entries b)) (nat_cmp a b)

module _ {X : Type 0} where
  -- the order of the rows of a domain, each at the position of its path and its own in that: by path,
  -- then by row
  abbrev pub paths_order : PlacedPaths X → ℕ × ℕ → ℕ × ℕ → Ordering
  paths_order paths a b = ordering_then (entry_order paths a.0 b.0) (entry_order (under a.0 (map (λ p. p.1) paths)) a.1 b.1)

  -- the order of all rows: by domain, then by path, then by row
  abbrev pub place_order : PlacedGroups X → RowPosition → RowPosition → Ordering
  place_order placed a b = ordering_then (entry_order placed a.0 b.0) (paths_order (under a.0 (map (λ g. g.1) placed)) (a.1, a.2) (b.1, b.2))
