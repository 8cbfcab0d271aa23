-- Rows and groups as their maps hold them, each with its place in the order of insertion.
use Rattle.std.specs.Prelude.{ℕ, suc, List, [], ◌∷◌, map, string_bytes}
use Rattle.std.specs.List.{flat_map}
use Rattle.ordered_map.specs.Entries.{Ordered, entries, in_order}
use Rattle.cookie_parts.specs.Cookie.{Row}
use Rattle.cookie_lookup.specs.Positions.{paths_in_order, Placed, PlacedGroups, PlacedPaths}
use Rattle.cookie_rows.specs.GroupChanges.{texts_by}
use Rattle.cookie_rows.specs.Items.{Item, ItemGroups, ItemPaths}

-- the rows of a path
abbrev pub StoredItems : Type 0
StoredItems = Placed Item

-- the groups of a domain, by path
abbrev pub StoredPaths : Type 0
StoredPaths = PlacedPaths Item

-- all groups, by domain
abbrev pub StoredGroups : Type 0
StoredGroups = PlacedGroups Item

-- the entries of a map, with their keys as lists of bytes
abbrev pub stored_in : {S V : Type 0} → Ordered V S → Placed (List ℕ × V)
stored_in m = map (λ e. (e.0, (string_bytes e.1.0, e.1.1))) m.by_position

-- the rows of a list, each at its index
abbrev pub indexed : {X : Type 0} → ℕ → List X → Placed X
indexed n [] = []
indexed n (x ∷ xs) = (n, x) ∷ indexed (suc n) xs

-- in order

-- the groups of a map of domains
abbrev pub domains_in : {S : Type 0} → Ordered StoredPaths S → ItemGroups
domains_in m = texts_by paths_in_order (entries m)

-- the groups of a map of paths
abbrev pub paths_in : {S : Type 0} → Ordered StoredItems S → ItemPaths
paths_in m = texts_by in_order (entries m)

-- the groups of all domains, one domain after the other
abbrev pub all_stored : List StoredPaths → List StoredItems
all_stored domains = flat_map (λ paths. map (λ p. p.1) (in_order paths)) domains

-- the same without numbers, with their places

-- the rows of a path
abbrev pub placed_rows : StoredItems → Placed Row
placed_rows items = map (λ i. (i.0, i.1.row)) items

-- the groups of a domain
abbrev pub placed_paths : StoredPaths → PlacedPaths Row
placed_paths paths = map (λ p. (p.0, (p.1.0, placed_rows p.1.1))) paths

-- all groups
abbrev pub placed_groups : StoredGroups → PlacedGroups Row
placed_groups groups = map (λ g. (g.0, (g.1.0, placed_paths g.1.1))) groups
