-- Changes of a table, and the rows that they leave.
use Rattle.std.specs.Prelude.{ℕ, List, [], ◌∷◌, map, IsTrue, Vec, ⊤}
use Rattle.std.specs.declared.alloc.Global.{Global}
use Rattle.sqlite_value.specs.Order.{Row}
use Rattle.sqlite_trees.specs.Tree.{Trees, put_row, rowid, with_tree, without_rowid}
use Rattle.sqlite_trees.specs.View.{is_int, IsStorableRow}
use Rattle.durable_table.specs.declared.change.Change.{Change}
use Rattle.durable_table.specs.declared.change.Change.TheVariants.{Put, Delete}

-- the rows after a change
abbrev pub changed : Change → List Row → List Row
changed (Put row) rows = put_row row rows
changed (Delete id) rows = without_rowid id rows

-- the rows after these changes, the first of them first
abbrev pub after : List Change → List Row → List Row
after [] rows = rows
after (change ∷ changes) rows = after changes (changed change rows)

-- the rows after these transactions, each a list of changes
abbrev pub after_each : List (List Change) → List Row → List Row
after_each [] rows = rows
after_each (changes ∷ transactions) rows = after_each transactions (after changes rows)

-- the lists of changes of a slice of vectors
abbrev pub lists : List (Vec Change Global) → List (List Change)
lists transactions = map (λ changes. changes.items) transactions

-- the trees, with the rows of this table edited
abbrev pub in_table : ℕ → (List Row → List Row) → Trees → Trees
in_table table edit trees = with_tree trees table (edit (trees table))

-- a row that is put has an integer as its rowid
abbrev pub HasRowid : Change → Type 0
HasRowid (Put row) = IsTrue (is_int (rowid row))
HasRowid (Delete id) = ⊤

-- a row that is put cannot be stored: it has a NaN, an integer in a REAL column, no column or too many, or is too long
abbrev pub IsUnstorable : ℕ → Change → Type 0
IsUnstorable reals (Put row) = ¬ IsStorableRow reals row
IsUnstorable reals (Delete id) = ⊥
