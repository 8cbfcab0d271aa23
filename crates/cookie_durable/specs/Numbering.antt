-- The rowids of the cookies.
use Rattle.std.specs.Prelude.{◌≡◌, ℤ, pos, false, ◌+ℤ◌, List, is_some, Option, Some, None, option_map, if◌then◌else◌, String, string_bytes}
use Rattle.std.specs.List.{AllByRecursion, AllZip}
use Rattle.std.specs.Map.{lookup}
use Rattle.std.specs.declared.alloc.Global.{Global}
use Rattle.std.specs.declared.cmp.Ordering.TheVariants.{Less}
use Rattle.sqlite_value.specs.Order.{Row as TableRow, value_cmp}
use Rattle.sqlite_value.specs.declared.value.Value.TheVariants.{Int}
use Rattle.sqlite_trees.specs.Tree.{rowid, IsTable}
use Rattle.cookie_parts.specs.Cookie.{Row as Cookie}
use Rattle.cookie_laws.specs.Contents.{Contents, HasCreationOrder}
use Rattle.cookie_laws.specs.Rows.{Key, add_created, key_at, removed, row_of, same_key}
use Rattle.cookie_table.specs.Columns.{table_row}
use Rattle.cookie_table.specs.FromColumns.{cookie_in}
use Rattle.cookie_table.specs.WholeSeconds.{in_whole_seconds}
use Rattle.durable_table.specs.declared.change.Change.{Change}
use Rattle.durable_table.specs.declared.change.Change.TheVariants.{Put, Delete}
use Rattle.cookie_durable.specs.SavedTables.{IsSavedAs}

-- a domain, a path and a name
abbrev pub Names : Type 0
Names = String Global × String Global × String Global

-- the key that they are
abbrev pub key_in : Names → Key
key_in names = key_at (string_bytes names.0) (string_bytes names.1) (string_bytes names.2)

-- keys with their rowids
abbrev pub Ids : Type 0
Ids = List (Names × ℤ)

-- the rowid of a key, if it has one
abbrev pub id_of : Key → Ids → Option ℤ
id_of key ids = lookup (λ names. same_key key (key_in names)) ids

-- the row has the rowid of the key, and reads as its cookie
abbrev pub IsRowOf : Contents → Ids → Key → TableRow → Type 0
IsRowOf store ids key row = (option_map Int (id_of key ids) ≡ Some (rowid row)) × IsSavedAs (row_of key store.rows) row

-- the rows are the cookies in creation order, each under the rowid of its key, and no other key has a rowid; the rowids ascend, and
-- the next one is above them
pub record IsNumbered (store : Contents) (ids : Ids) (next : ℤ) (table_rows : List TableRow) : Type 0 where
  pub order : HasCreationOrder store
  pub unlimited : store.limit ≡ None
  pub has_id : (key : Key) → is_some (id_of key ids) ≡ is_some (row_of key store.rows)
  pub saved : AllZip (IsRowOf store ids) store.created table_rows
  pub ascending : IsTable table_rows
  pub below : AllByRecursion (λ (row : TableRow). value_cmp (rowid row) (Int next) ≡ Less) table_rows

-- a call changed the row of this key alone: it is stored, created last if it is new, or it is removed
pub record Touches (key : Key) (old new : Contents) : Type 0 where
  pub order : HasCreationOrder new
  pub unlimited : new.limit ≡ None
  pub others : (other : Key) → same_key key other ≡ false → row_of other new.rows ≡ row_of other old.rows
  pub created : new.created
      ≡ (if is_some (row_of key new.rows) then add_created old.created key else removed (same_key key) old.created)

-- the key now has this rowid, or none; the other keys keep theirs
abbrev pub SetsId : Key → Option ℤ → Ids → Ids → Type 0
SetsId key id ids new_ids =
    (id_of key new_ids ≡ id) × ((other : Key) → same_key key other ≡ false → id_of other new_ids ≡ id_of other ids)

-- the rowid is the one that the key had, or the next one
abbrev pub GivesId : Option ℤ → ℤ → ℤ → ℤ → Type 0
GivesId (Some own) next id new_next = (id ≡ own) × (new_next ≡ next)
GivesId None next id new_next = (id ≡ next) × (new_next ≡ next +ℤ pos 1)

-- the change puts the cookie under the rowid of its key
abbrev pub PutsCookie : Cookie → Key → Ids → ℤ → Ids → ℤ → Change → Type 0
PutsCookie cookie key ids next new_ids new_next change =
    (id : ℤ) × GivesId (id_of key ids) next id new_next × SetsId key (Some id) ids new_ids
    × (change ≡ Put (table_row id cookie)) × (cookie_in (table_row id cookie) ≡ Some (in_whole_seconds cookie))

-- the change writes the cookie of the key, or deletes its row if the key has none
abbrev pub WritesCookie : Option Cookie → Key → Ids → ℤ → Ids → ℤ → Option Change → Type 0
WritesCookie (Some cookie) key ids next new_ids new_next change =
    (put : Change) × (change ≡ Some put) × PutsCookie cookie key ids next new_ids new_next put
WritesCookie None key ids next new_ids new_next change =
    SetsId key None ids new_ids × (new_next ≡ next) × (change ≡ option_map Delete (id_of key ids))
