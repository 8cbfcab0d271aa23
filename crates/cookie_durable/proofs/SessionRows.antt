-- The table without the rows of session cookies.
use Rattle.std.proofs.Common.{◌≡◌, ℕ, Bool, true, false, not, List, [], ◌∷◌, ◌++◌, Option, Some, IsTrue, Less, is_eq, refl, sym, ap, ◌∙◌, append_assoc, append-nil}
use Rattle.std.specs.Prelude.{◌==◌, unwrap_or, if◌then◌else◌}
use Rattle.std.specs.List.{AllByRecursion}
use Rattle.std.proofs.lemmas.Bool.{cond-true, cond-false}
use Rattle.sqlite_value.specs.Order.{Row as TableRow, value_cmp}
use Rattle.sqlite_value.specs.declared.value.Value.{Value}
use Rattle.sqlite_value.specs.declared.value.Value.TheVariants.{Null, Int, Real, Text, Blob}
use Rattle.sqlite_value.specs.declared.keys.Order.{Order}
use Rattle.sqlite_trees.specs.Tree.{IsTable, from_key, has_rowid, rowid, sought, without_rowid}
use Rattle.sqlite_trees.specs.View.{Advances, View, is_int, with_cursor}
use Rattle.sqlite_trees.specs.declared.store.Direction.TheVariants.{Forward}
use Rattle.durable_table.specs.Changes.{after}
use Rattle.durable_table.specs.declared.change.Change.{Change}
use Rattle.cookie_durable.specs.Durable.{IsUnwritten}
use Rattle.cookie_durable.specs.Sessions.{deletion, deletion_of, is_session, kept_rows, session_deletions}
use Rattle.cookie_durable.proofs.RowEdits.{without_rowid-first}

-- one row more
deletions-append : (rows : List TableRow) (row : TableRow) → session_deletions (rows ++ row ∷ []) ≡ session_deletions rows ++ deletion row
deletions-append [] row = append-nil (deletion row)
deletions-append (r ∷ rows) row =
    ap (λ (cs : List Change). deletion r ++ cs) (deletions-append rows row) ∙ sym (append_assoc (deletion r) (session_deletions rows) (deletion row))

-- the changes delete the session cookies of the rows that were read, and the cursor has the others
pub record HasListed (changes : List Change) (table : ℕ) (old new : View) : Type 0 where
  pub unwritten : IsUnwritten old new
  pub read : List TableRow
  pub left : List TableRow
  pub cursor : new.cursors 0 ≡ Some left
  pub all : read ++ left ≡ old.trees table
  pub lists : changes ≡ session_deletions read

from_no_key : (o : Order) (rows : List TableRow) → from_key o [] rows ≡ rows
from_no_key o [] = refl
from_no_key o (r ∷ rows) = refl

moves_to_own : (old new : View) (cursors : ℕ → Option (List TableRow)) → new ≡ record old { cursors = cursors } → new ≡ record old { cursors = new.cursors }
moves_to_own old new cursors is =
    is ∙ ap (λ (c : ℕ → Option (List TableRow)). record old { cursors = c }) (sym (ap (λ (v : View). v.cursors) is))

-- after the seek nothing was read
pub begins : (o : Order) (table : ℕ) (old new : View) (changes : List Change) (key : TableRow) → changes ≡ [] → key ≡ [] → old.is_broken ≡ false
    → new ≡ with_cursor old 0 (sought o Forward key (old.trees table)) → HasListed changes table old new
begins o table old new changes key none no_key sound is = record {
  unwritten = (sound, moves_to_own old new _ is);
  read = [];
  left = sought o Forward key (old.trees table);
  cursor = ap (λ (v : View). v.cursors 0) is;
  all = ap (λ (k : TableRow). from_key o k (old.trees table)) no_key ∙ from_no_key o (old.trees table);
  lists = none;
}

same_left : (xs ys : List TableRow) → Some xs ≡ Some ys → xs ≡ ys
same_left xs ys e = ap (λ o. unwrap_or o xs) e

-- rows that were read
module _ (changes : List Change) (table : ℕ) (old mid new : View) (row : TableRow) (before : HasListed changes table old mid) where
  -- one row more
  pub lists_more : (more : List Change) → Advances mid new 0 row true → more ≡ changes ++ deletion row → HasListed more table old new
  lists_more more moves pushed =
      let left_is : before.left ≡ row ∷ moves.0 = same_left before.left (row ∷ moves.0) (sym before.cursor ∙ moves.1) in
      let cursors : ℕ → Option (List TableRow) = λ c. if c == 0 then Some moves.0 else mid.cursors c in
      record {
        unwritten = (before.unwritten.0, moves_to_own old new cursors (moves.2 ∙ ap (λ (v : View). record v { cursors = cursors }) before.unwritten.1));
        read = before.read ++ row ∷ [];
        left = moves.0;
        cursor = ap (λ (v : View). v.cursors 0) moves.2;
        all = append_assoc before.read (row ∷ []) moves.0 ∙ ap (λ (l : List TableRow). before.read ++ l) (sym left_is) ∙ before.all;
        lists = pushed ∙ ap (λ (cs : List Change). cs ++ deletion row) before.lists ∙ sym (deletions-append before.read row);
      }

  -- at the end all rows were read
  pub lists_all : Advances mid new 0 row false → changes ≡ session_deletions (old.trees table)
  lists_all moves =
      let left_is : before.left ≡ [] = same_left before.left [] (sym before.cursor ∙ moves.0) in
      before.lists ∙ ap session_deletions (sym (append-nil before.read) ∙ ap (λ (l : List TableRow). before.read ++ l) (sym left_is) ∙ before.all)

-- a row below the row of a deletion stays first
deletion-stays : (r : TableRow) (rows : List TableRow) (changes : List Change) (value : Value) (drops : Bool) → value_cmp (rowid r) value ≡ Less
    → ((rest : List TableRow) → after changes (r ∷ rest) ≡ r ∷ after changes rest)
    → after (deletion_of value drops ++ changes) (r ∷ rows) ≡ r ∷ after (deletion_of value drops ++ changes) rows
deletion-stays r rows changes (Int id) true less stays =
    ap (after changes) (cond-true (not (has_rowid id r)) (r ∷ without_rowid id rows) (without_rowid id rows) (ap (λ o. not (is_eq o)) less))
    ∙ stays (without_rowid id rows)
deletion-stays r rows changes (Int id) false less stays = stays rows
deletion-stays r rows changes Null drops less stays = stays rows
deletion-stays r rows changes (Real x) drops less stays = stays rows
deletion-stays r rows changes (Text t) drops less stays = stays rows
deletion-stays r rows changes (Blob b) drops less stays = stays rows

-- a row below the rows of all deletions stays first
after-stays : (r : TableRow) (rows : List TableRow) → AllByRecursion (λ (b : TableRow). value_cmp (rowid r) (rowid b) ≡ Less) rows
    → (rest : List TableRow) → after (session_deletions rows) (r ∷ rest) ≡ r ∷ after (session_deletions rows) rest
after-stays r [] below rest = refl
after-stays r (s ∷ rows) below rest =
    deletion-stays r rest (session_deletions rows) (rowid s) (is_session s) below.0 (after-stays r rows below.1)

-- the first row is deleted if it is that of a session cookie
first-swept : (r : TableRow) (rows left : List TableRow) (changes : List Change) → IsTable (r ∷ rows) → (value : Value) → rowid r ≡ value → IsTrue (is_int value)
    → (drops : Bool) → is_session r ≡ drops → after changes rows ≡ left → after changes (r ∷ rows) ≡ r ∷ left
    → after (deletion_of value drops ++ changes) (r ∷ rows) ≡ (if not (is_session r) then r ∷ left else left)
first-swept r rows left changes table (Int id) own int true drops rest stays =
    ap (after changes) (without_rowid-first id r rows own table) ∙ rest ∙ sym (cond-false (not (is_session r)) (r ∷ left) left (ap not drops))
first-swept r rows left changes table (Int id) own int false drops rest stays =
    stays ∙ sym (cond-true (not (is_session r)) (r ∷ left) left (ap not drops))
first-swept r rows left changes table Null own int drops is rest stays = absurd (cc)
first-swept r rows left changes table (Real x) own int drops is rest stays = absurd (cc)
first-swept r rows left changes table (Text t) own int drops is rest stays = absurd (cc)
first-swept r rows left changes table (Blob b) own int drops is rest stays = absurd (cc)

-- what is left are the rows of persistent cookies
pub swept : (rows : List TableRow) → IsTable rows → AllByRecursion (λ (r : TableRow). IsTrue (is_int (rowid r))) rows
    → after (session_deletions rows) rows ≡ kept_rows false rows
swept [] table ints = refl
swept (r ∷ rows) table ints =
    let rest : after (session_deletions rows) rows ≡ kept_rows false rows = swept rows table.1 ints.1 in
    first-swept r rows (kept_rows false rows) (session_deletions rows) table (rowid r) refl ints.0 (is_session r) refl rest
    (after-stays r rows table.0 rows ∙ ap (λ (rs : List TableRow). r ∷ rs) rest)
