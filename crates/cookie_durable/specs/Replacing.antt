-- The rows of cookies that replace those of a table.
use Rattle.std.specs.Prelude.{ℤ, pos, ◌+ℤ◌, List, [], ◌∷◌}
use Rattle.sqlite_value.specs.Order.{Row as TableRow}
use Rattle.cookie_parts.specs.Cookie.{Row as Cookie}
use Rattle.cookie_table.specs.Columns.{table_row}

-- the rows of these cookies in their order, the first under this rowid, each other one under the next
abbrev pub rows_from : ℤ → List Cookie → List TableRow
rows_from id [] = []
rows_from id (cookie ∷ cookies) = table_row id cookie ∷ rows_from (id +ℤ pos 1) cookies

-- the rows of these cookies in a new table
abbrev pub new_rows : List Cookie → List TableRow
new_rows cookies = rows_from (pos 1) cookies
