-- The rows of a path: none, a single one, a list, or a table.
use Rattle.std.specs.Prelude.{ℕ, Bool, IsTrue, List, [], ◌∷◌, map, bytes_eq, ⊤}
use Rattle.std.specs.Map.{values_of}
use Rattle.ordered_map.specs.Entries.{entries}
use Rattle.cookie_laws.specs.Rows.{differ}
use Rattle.cookie_rows.specs.Items.{AreNamed, Item}
use Rattle.cookie_rows.specs.Stored.{StoredItems, indexed}
use Rattle.cookie_rows.specs.declared.names.NameMap.{NameMap}
use Rattle.cookie_rows.specs.declared.names.NameMap.TheVariants as Rows

-- the names of the rows
abbrev pub names_in : List Item → List (List ℕ)
names_in items = map (λ item. item.row.raw.name) items

-- no two rows have the same name
abbrev pub names_differ : List Item → Bool
names_differ items = differ bytes_eq (names_in items)

-- the rows as stored
abbrev pub stored_rows : NameMap → StoredItems
stored_rows Rows.Empty = []
stored_rows (Rows.Single row) = (0, row) ∷ []
stored_rows (Rows.List rows) = indexed 0 rows.value.items
stored_rows (Rows.Table rows) = map (λ e. (e.0, e.1.1)) rows.value.by_position

-- the rows, in order
abbrev pub items_of : NameMap → List Item
items_of Rows.Empty = []
items_of (Rows.Single row) = row ∷ []
items_of (Rows.List rows) = rows.value.items
items_of (Rows.Table rows) = values_of (entries rows.value)

-- the rows of a list have different names; the key of each row in a table is its name
abbrev pub HasNames : NameMap → Type 0
HasNames Rows.Empty = ⊤
HasNames (Rows.Single row) = ⊤
HasNames (Rows.List rows) = IsTrue (names_differ rows.value.items)
HasNames (Rows.Table rows) = AreNamed (entries rows.value)
