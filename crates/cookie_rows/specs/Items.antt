-- Rows in groups, numbered in creation order.
use Rattle.std.specs.Prelude.{◌≡◌, ◌<◌, ℕ, Bool, true, List, [], ◌∷◌, map, nat_eq, nat_le, string_bytes, String, Option, IsTrue, if◌then◌else◌}
use Rattle.std.specs.List.{AllByRecursion, flat_map}
use Rattle.cookie_parts.specs.Cookie.{Row, expired_row}
use Rattle.cookie_parts.specs.Domain.{domain_text}
use Rattle.cookie_laws.specs.Rows.{Key, RowsInOrder, are_rows, changed, differ, key_at, removed}
use Rattle.cookie_lookup.specs.Groups.{AreGroups, DomainGroups, PathGroups, flat}
use Rattle.cookie_rows.specs.GroupChanges.{changed_at, found, is_named, lessened_at, put_at, row_named}

-- a row and its number; rows created later have greater numbers
pub record Item : Type 0 where
  pub row : Row
  pub number : ℕ

-- the rows of a domain, in groups by path
abbrev pub ItemPaths : Type 0
ItemPaths = List (List ℕ × List Item)

-- all rows, in groups by domain
abbrev pub ItemGroups : Type 0
ItemGroups = List (List ℕ × List (List ℕ × List Item))

-- the map key of each row is its name
abbrev pub AreNamed : {A : Type 0} → List (String A × Item) → Type 0
AreNamed es = AllByRecursion (λ e. string_bytes e.0 ≡ e.1.row.raw.name) es

-- the rows of all groups, one group after the other
abbrev pub joined : List (List Item) → List Item
joined groups = flat_map (λ items. items) groups

-- the same without numbers

-- the rows of a group
abbrev pub rows_of : List Item → List Row
rows_of items = map (λ item. item.row) items

-- the rows of the groups of a domain
abbrev pub bare_paths : ItemPaths → PathGroups
bare_paths paths = map (λ p. (p.0, rows_of p.1)) paths

-- the rows of all groups
abbrev pub bare : ItemGroups → DomainGroups
bare groups = map (λ g. (g.0, bare_paths g.1)) groups

-- changes of one group

-- the row has this name
abbrev pub is_item_named : List ℕ → Item → Bool
is_item_named name item = is_named name item.row

-- the rows with this one stored: it replaces the first of its name, whose number stays, or is added
-- at the end with this number
abbrev pub put_item : Row → ℕ → List Item → List Item
put_item row number [] = record { row = row; number = number } ∷ []
put_item row number (x ∷ xs) =
    if is_item_named row.raw.name x then record x { row = row } ∷ xs else x ∷ put_item row number xs

-- the rows with that of this name expired
abbrev pub expire_item : List ℕ → List Item → List Item
expire_item name items = changed (is_item_named name) (λ item. record item { row = expired_row item.row }) items

-- the rows without that of this name
abbrev pub remove_item : List ℕ → List Item → List Item
remove_item name items = removed (is_item_named name) items

-- changes by path, and by domain

-- the row of a path and a name
abbrev pub find_item_paths : List ℕ → List ℕ → ItemPaths → Option Row
find_item_paths path name paths = found (λ items. row_named name (rows_of items)) path paths

-- the row of a key
abbrev pub find_items : Key → ItemGroups → Option Row
find_items key groups = found (find_item_paths key.path key.name) key.domain groups

-- the groups of a domain with a row stored under its path
abbrev pub put_item_paths : Row → ℕ → ItemPaths → ItemPaths
put_item_paths row number paths = put_at (put_item row number) row.path.text paths

-- all groups with a row stored under its domain and path
abbrev pub put_items : Row → ℕ → ItemGroups → ItemGroups
put_items row number groups = put_at (put_item_paths row number) (domain_text row.domain) groups

-- the groups of a domain with the row of a path and a name expired
abbrev pub expire_item_paths : List ℕ → List ℕ → ItemPaths → ItemPaths
expire_item_paths path name paths = changed_at (expire_item name) path paths

-- all groups with the row of a key expired
abbrev pub expire_items : Key → ItemGroups → ItemGroups
expire_items key groups = changed_at (expire_item_paths key.path key.name) key.domain groups

-- the groups of a domain without the row of a path and a name
abbrev pub remove_item_paths : List ℕ → List ℕ → ItemPaths → ItemPaths
remove_item_paths path name paths = lessened_at (remove_item name) path paths

-- all groups without the row of a key
abbrev pub remove_items : Key → ItemGroups → ItemGroups
remove_items key groups = lessened_at (remove_item_paths key.path key.name) key.domain groups

-- creation order

-- the keys of a group, with their numbers
abbrev pub numbered_names : List ℕ → List ℕ → List Item → List (Key × ℕ)
numbered_names domain path items = map (λ item. (key_at domain path item.row.raw.name, item.number)) items

-- the keys of the groups of a domain, with their numbers
abbrev pub numbered_paths : List ℕ → ItemPaths → List (Key × ℕ)
numbered_paths domain paths = flat_map (λ p. numbered_names domain p.0 p.1) paths

-- the keys of all groups, with their numbers
abbrev pub numbered : ItemGroups → List (Key × ℕ)
numbered groups = flat_map (λ g. numbered_paths g.0 g.1) groups

-- a key inserted before the first whose number is not less
abbrev pub place : Key × ℕ → List (Key × ℕ) → List (Key × ℕ)
place x [] = x ∷ []
place x (y ∷ ys) = if nat_le x.1 y.1 then x ∷ y ∷ ys else y ∷ place x ys

-- keys sorted by their numbers
abbrev pub by_number : List (Key × ℕ) → List (Key × ℕ)
by_number [] = []
by_number (x ∷ xs) = place x (by_number xs)

-- the keys of all rows in creation order, oldest first
abbrev pub creation_order : ItemGroups → List Key
creation_order groups = map (λ x. x.0) (by_number (numbered groups))

-- all numbers are below this one
abbrev pub Below : ℕ → ItemGroups → Type 0
Below n groups = AllByRecursion (λ x. x.1 < n) (numbered groups)

-- no two rows have the same number
abbrev pub NumbersDiffer : ItemGroups → Type 0
NumbersDiffer groups = differ nat_eq (map (λ x. x.1) (numbered groups)) ≡ true

-- groups of rows that form a store, with different numbers, all below this one
abbrev pub AreItems : ℕ → ItemGroups → Type 0
AreItems n groups = AreGroups (bare groups) × IsTrue (are_rows (flat (bare groups))) × Below n groups × NumbersDiffer groups

-- their rows as one list, and the keys in creation order
abbrev pub groups_in_order : ItemGroups → RowsInOrder
groups_in_order groups = record { rows = flat (bare groups); created = creation_order groups }
