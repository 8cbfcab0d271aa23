-- What a table holds of a store.
use Rattle.std.specs.Prelude.{◌≡◌, ◌⊎◌, List, Option, Some, None}
use Rattle.std.specs.List.{AllZip}
use Rattle.sqlite_value.specs.Order.{Row as TableRow}
use Rattle.cookie_parts.specs.Cookie.{Row as Cookie}
use Rattle.cookie_laws.specs.Contents.{Contents}
use Rattle.cookie_laws.specs.Rows.{Key, row_of}
use Rattle.cookie_table.specs.FromColumns.{cookie_in}
use Rattle.cookie_table.specs.WholeSeconds.{in_whole_seconds}

-- the row reads as the cookie, or as the cookie with its times cut to whole seconds
abbrev pub IsSavedAs : Option Cookie → TableRow → Type 0
IsSavedAs None row = ⊥
IsSavedAs (Some cookie) row = (cookie_in row ≡ Some cookie) ⊎ (cookie_in row ≡ Some (in_whole_seconds cookie))

-- the rows of the table are the cookies of the store, in creation order
abbrev pub Holds : Contents → List TableRow → Type 0
Holds store rows = AllZip (λ (key : Key) (row : TableRow). IsSavedAs (row_of key store.rows) row) store.created rows
