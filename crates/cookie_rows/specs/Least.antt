-- The row of a domain that is evicted first.
use Rattle.std.specs.Prelude.{◌≡◌, ◌<◌, ◌⊎◌, ℕ, true, false, List, [], ◌∷◌, ◌++◌, bytes_eq, length, map, nat_eq, option_map, slice_get, Option, Some, None, if◌then◌else◌}
use Rattle.std.specs.List.{AllByRecursion, flat_map}
use Rattle.cookie_words.specs.Moments.{Moment}
use Rattle.cookie_laws.specs.Rows.{differ}
use Rattle.cookie_rows.specs.declared.eviction_order.EvictionOrder.{EvictionOrder}
use Rattle.cookie_rows.specs.declared.least.Least.{Least}
use Rattle.cookie_rows.specs.Eviction.{EvictionRank, comes_before, rank_of}
use Rattle.cookie_rows.specs.GroupChanges.{unless_empty}
use Rattle.cookie_rows.specs.HeaderItems.{items_in}
use Rattle.cookie_rows.specs.Items.{Item, ItemGroups, ItemPaths, joined}
use Rattle.cookie_rows.specs.Stored.{StoredItems, StoredPaths}

-- the rows of a domain
abbrev pub items_in_paths : ItemPaths → List Item
items_in_paths paths = flat_map (λ p. p.1) paths

-- the rows of all domains
abbrev pub items_in_groups : ItemGroups → List Item
items_in_groups groups = flat_map (λ g. items_in_paths g.1) groups

-- no two rows of a domain have the same number, and no group is empty
abbrev pub AreNumbered : ItemPaths → Type 0
AreNumbered paths =
    (differ nat_eq (map (λ item. item.number) (items_in_paths paths)) ≡ true) × AllByRecursion (λ p. 0 < length p.1) paths

-- no row comes before this rank in eviction order
abbrev pub NoneBefore : EvictionOrder → Moment → EvictionRank → List Item → Type 0
NoneBefore order now rank items = AllByRecursion (λ item. comes_before (rank_of order now item) rank ≡ false) items

-- the row at a position, with its path, if there is one
abbrev pub stored_at : StoredPaths → ℕ → ℕ → Option (List ℕ × Item)
stored_at paths path row = elim (slice_get (map (λ p. p.1) paths) path) [
  | None ↦ None
  | Some group ↦ option_map (λ item. (group.0, item)) (slice_get (map (λ i. i.1) group.1) row)
]

-- the rows of a path, in any order
abbrev pub stored_items : StoredItems → List Item
stored_items items = map (λ i. i.1) items

-- the row at the position of `least` has its rank in eviction order, and no row of these groups comes before it; there is none if
-- there are no rows
abbrev pub IsLeastOfGroups : EvictionOrder → Moment → List (List Item) → Option Least → Type 0
IsLeastOfGroups order now groups None = joined groups ≡ []
IsLeastOfGroups order now groups (Some least) =
    (option_map (rank_of order now) (slice_get (items_in (slice_get groups least.path)) least.row) ≡ Some least.rank)
    × NoneBefore order now least.rank (joined groups)

-- the same of the group at this position
abbrev pub IsLeastOfGroup : EvictionOrder → Moment → ℕ → List Item → Option Least → Type 0
IsLeastOfGroup order now path items None = items ≡ []
IsLeastOfGroup order now path items (Some least) =
    (least.path ≡ path) × (option_map (rank_of order now) (slice_get items least.row) ≡ Some least.rank) × NoneBefore order now least.rank items

-- the row is taken out of a list
abbrev pub TakesOut : Item → List Item → List Item → Type 0
TakesOut item old new = (front : List Item) × (back : List Item) × (old ≡ front ++ item ∷ back) × (new ≡ front ++ back)

-- the row is taken out of the group of this path, the first one of it
abbrev pub TakesAt : List ℕ → Item → ItemPaths → ItemPaths → Type 0
TakesAt path item old new =
    (front : ItemPaths) × (back : ItemPaths) × (items : List Item) × (left : List Item) × AllByRecursion (λ g. bytes_eq path g.0 ≡ false) front
    × TakesOut item items left × (old ≡ front ++ (path, items) ∷ back) × (new ≡ front ++ (path, left) ∷ back)

-- the row is removed, and its group if it was the last row there
abbrev pub RemovesAt : Item → ItemPaths → ItemPaths → Type 0
RemovesAt item old new =
    (path : List ℕ) × (front : ItemPaths) × (back : ItemPaths) × (items : List Item) × (left : List Item)
    × TakesOut item items left × (old ≡ front ++ (path, items) ∷ back) × (new ≡ front ++ unless_empty path left back)

-- the groups of a domain without a row before which no other comes; there may be no row
abbrev pub RemovesLeast : EvictionOrder → Moment → ItemPaths → ItemPaths → Type 0
RemovesLeast order now old new =
    ((items_in_paths old ≡ []) × (new ≡ old))
    ⊎ ((item : Item) × NoneBefore order now (rank_of order now item) (items_in_paths old) × RemovesAt item old new)

-- the one of two that is evicted first; the first one if neither is
abbrev pub lesser : Option Least → Option Least → Option Least
lesser None other = other
lesser (Some least) None = Some least
lesser (Some least) (Some other) = if comes_before other.rank least.rank then Some other else Some least
