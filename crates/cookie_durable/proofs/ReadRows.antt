-- The cookies of the rows that a cursor gave so far.
use Rattle.std.proofs.Common.{◌≡◌, ℕ, ℤ, true, false, List, [], ◌∷◌, ◌++◌, Option, Some, None, refl, sym, ap, subst, ◌∙◌, append_assoc}
use Rattle.std.specs.Prelude.{◌==◌, unwrap_or, if◌then◌else◌}
use Rattle.std.specs.List.{AllByRecursion}
use Rattle.sqlite_value.specs.Order.{Row as TableRow}
use Rattle.sqlite_value.specs.declared.keys.Order.{Order}
use Rattle.sqlite_trees.specs.Tree.{IsTable, from_key, sought}
use Rattle.sqlite_trees.specs.View.{Advances, IsShaped, View, with_cursor}
use Rattle.sqlite_trees.specs.declared.store.Direction.TheVariants.{Forward}
use Rattle.sqlite_trees.specs.declared.store.Shape.{Shape}
use Rattle.sqlite_trees.specs.declared.store.Shape.TheVariants.{Table}
use Rattle.cookie_words.specs.Moments.{epoch}
use Rattle.cookie_laws.specs.Contents.{Contents}
use Rattle.cookie_laws.proofs.CreationKeys.{made_built}
use Rattle.cookie_durable.specs.Durable.{IsUnwritten}
use Rattle.cookie_durable.specs.Numbering.{Ids, IsNumbered}

-- a store without cookies
abbrev pub no_cookies : Contents
no_cookies = record { rows = []; created = []; suffixes = None; limit = None }

pub none_numbered : (next : ℤ) → IsNumbered no_cookies [] next []
none_numbered next = record {
  order = made_built true epoch [] None None;
  unlimited = refl;
  has_id = λ key. refl;
  saved = tt;
  ascending = tt;
  below = tt;
}

-- no cookies in an empty table
pub empty_numbered : (store : Contents) (ids : Ids) (next : ℤ) (rows : List TableRow) → store ≡ no_cookies → ids ≡ [] → rows ≡ []
    → IsNumbered store ids next rows
empty_numbered store ids next rows a b c =
    subst (λ (r : List TableRow). IsNumbered store ids next r) (sym c)
    (subst (λ (i : Ids). IsNumbered store i next []) (sym b) (subst (λ (s : Contents). IsNumbered s [] next []) (sym a) (none_numbered next)))

-- the store has the cookies of the rows that were read, and the cursor has the others
pub record HasRead (store : Contents) (ids : Ids) (next : ℤ) (table : ℕ) (old new : View) : Type 0 where
  pub unwritten : IsUnwritten old new
  pub read : List TableRow
  pub left : List TableRow
  pub cursor : new.cursors 0 ≡ Some left
  pub all : read ++ left ≡ old.trees table
  pub numbered : IsNumbered store ids next read

from_no_key : (o : Order) (rows : List TableRow) → from_key o [] rows ≡ rows
from_no_key o [] = refl
from_no_key o (r ∷ rows) = refl

-- the same view, but for its cursors
abbrev MovesTo : View → View → (ℕ → Option (List TableRow)) → Type 0
MovesTo old new cursors = new ≡ record old { cursors = cursors }

moves_to_own : (old new : View) (cursors : ℕ → Option (List TableRow)) → MovesTo old new cursors → MovesTo old new new.cursors
moves_to_own old new cursors is =
    is ∙ ap (λ (c : ℕ → Option (List TableRow)). record old { cursors = c }) (sym (ap (λ (v : View). v.cursors) is))

-- after the seek nothing was read
pub begins : (o : Order) (table : ℕ) (old new : View) (store : Contents) (ids : Ids) (next : ℤ) (key : TableRow) → store ≡ no_cookies → ids ≡ []
    → key ≡ [] → old.is_broken ≡ false → new ≡ with_cursor old 0 (sought o Forward key (old.trees table))
    → HasRead store ids next table old new
begins o table old new store ids next key a b none sound is = record {
  unwritten = (sound, moves_to_own old new _ is);
  read = [];
  left = sought o Forward key (old.trees table);
  cursor = ap (λ (v : View). v.cursors 0) is;
  all = ap (λ (k : TableRow). from_key o k (old.trees table)) none ∙ from_no_key o (old.trees table);
  numbered = empty_numbered store ids next [] a b refl;
}

same_left : (xs ys : List TableRow) → Some xs ≡ Some ys → xs ≡ ys
same_left xs ys e = ap (λ o. unwrap_or o xs) e

all_prefix : (P : TableRow → Type 0) (xs ys : List TableRow) → AllByRecursion P (xs ++ ys) → AllByRecursion P xs
all_prefix P [] ys all = tt
all_prefix P (x ∷ xs) ys all = (all.0, all_prefix P xs ys all.1)

table_prefix : (xs ys : List TableRow) → IsTable (xs ++ ys) → IsTable xs
table_prefix [] ys table = tt
table_prefix (x ∷ xs) ys table = (all_prefix _ xs ys table.0, table_prefix xs ys table.1)

-- a table has ascending rowids
pub table_rows : (shape : Shape) (rows : List TableRow) → shape ≡ Table → IsShaped shape rows → IsTable rows
table_rows shape rows is shaped =
    let at : IsShaped Table rows = subst (λ (s : Shape). IsShaped s rows) is shaped in
    at.0

-- rows that were read
module _ (store : Contents) (ids : Ids) (next : ℤ) (table : ℕ) (old mid new : View) (row : TableRow) (before : HasRead store ids next table old mid) where
  -- one row more
  pub one_more : (new_store : Contents) (new_ids : Ids) (new_next : ℤ) → IsTable (old.trees table) → Advances mid new 0 row true
      → ((rows : List TableRow) → IsTable (rows ++ row ∷ []) → IsNumbered store ids next rows → IsNumbered new_store new_ids new_next (rows ++ row ∷ []))
      → HasRead new_store new_ids new_next table old new
  one_more new_store new_ids new_next ordered moves adds =
      let left_is : before.left ≡ row ∷ moves.0 = same_left before.left (row ∷ moves.0) (sym before.cursor ∙ moves.1) in
      let rows : List TableRow = before.read ++ row ∷ [] in
      let all : rows ++ moves.0 ≡ old.trees table =
      append_assoc before.read (row ∷ []) moves.0 ∙ ap (λ (l : List TableRow). before.read ++ l) (sym left_is) ∙ before.all in
      let ascending : IsTable rows = table_prefix rows moves.0 (subst IsTable (sym all) ordered) in
      let cursors : ℕ → Option (List TableRow) = λ c. if c == 0 then Some moves.0 else mid.cursors c in
      let moved : MovesTo old new cursors = moves.2 ∙ ap (λ (v : View). record v { cursors = cursors }) before.unwritten.1 in
      record {
        unwritten = (before.unwritten.0, moves_to_own old new cursors moved);
        read = rows;
        left = moves.0;
        cursor = ap (λ (v : View). v.cursors 0) moves.2;
        all = all;
        numbered = adds before.read ascending before.numbered;
      }
