-- The rows of session cookies, and what an open keeps of a table.
use Rattle.std.specs.Prelude.{◌≡◌, ◌⊎◌, ◌≤◌, ℕ, Bool, true, false, not, List, [], ◌∷◌, ◌++◌, filter}
use Rattle.sqlite_value.specs.Order.{Row as TableRow, column}
use Rattle.sqlite_value.specs.declared.value.Value.{Value}
use Rattle.sqlite_value.specs.declared.value.Value.TheVariants.{Int}
use Rattle.sqlite_trees.specs.Tree.{Trees, rowid}
use Rattle.sqlite_trees.specs.View.{View, doubt, IsClean}
use Rattle.durable_table.specs.declared.change.Change.{Change}
use Rattle.durable_table.specs.declared.change.Change.TheVariants.{Delete}
use Rattle.cookie_table.specs.FromColumns.{is_null}
use Rattle.cookie_table.specs.Places.{expiry_place}

-- the row is that of a session cookie: it has no expiry
abbrev pub is_session : TableRow → Bool
is_session row = is_null (column row expiry_place)

-- the rows that are kept: all of them, or those of persistent cookies
abbrev pub kept_rows : Bool → List TableRow → List TableRow
kept_rows true rows = rows
kept_rows false rows = filter (λ row. not (is_session row)) rows

-- the change that deletes the row of a rowid, if it is to be deleted
abbrev pub deletion_of : Value → Bool → List Change
deletion_of (Int id) true = Delete id ∷ []
deletion_of value drops = []

-- the change that deletes the row, if it is that of a session cookie
abbrev pub deletion : TableRow → List Change
deletion row = deletion_of (rowid row) (is_session row)

-- the changes that delete the rows of session cookies
abbrev pub session_deletions : List TableRow → List Change
session_deletions [] = []
session_deletions (row ∷ rows) = deletion row ++ session_deletions rows

-- The file is shielded and clean as before. A crash leaves what it could leave before, or the table with the rows that are kept.
pub record KeepsRows {S : Type 0} (view : S → View) (recovers : S → Trees → Type 0) (Shielded : S → Type 0) (table : ℕ) (keep_session : Bool) (old new : S) : Type 0 where
  pub shield : Shielded old → Shielded new
  pub clean : doubt (view old).is_clean ≤ doubt (view new).is_clean
  pub outcomes : IsClean (view new) → (db : Trees) → recovers new db → recovers old db ⊎ (db table ≡ kept_rows keep_session ((view old).committed table))
