-- The rows of the table after the cookie of a key is written.
use Rattle.std.proofs.Common.{◌≡◌, ℤ, pos, ◌+ℤ◌, true, false, List, [], ◌∷◌, ◌++◌, map, Option, Some, None, Less, int_cmp, inr, ⊎_elim, refl, sym, ap, subst, ◌∙◌, arith}
use Rattle.std.specs.Prelude.{is_some, option_map, option_to_list}
use Rattle.std.specs.List.{AllByRecursion, AllZip, list_any}
use Rattle.std.specs.Map.{values_of}
use Rattle.std.proofs.lemmas.Bool.{cases_Bool, cond-true, cond-false}
use Rattle.std.proofs.lemmas.Int.{ints}
use Rattle.sqlite_value.specs.Order.{Row as TableRow, value_cmp}
use Rattle.sqlite_value.specs.declared.value.Value.{Value}
use Rattle.sqlite_value.specs.declared.value.Value.TheVariants.{Int}
use Rattle.sqlite_value.proofs.OrderLemmas.{value_cmp-Int, value_cmp_total}
use Rattle.sqlite_trees.specs.Tree.{IsTable, put_row, rowid, without_rowid}
use Rattle.sqlite_trees.proofs.ListLemmas.{all-filter, all_weaker, ascending-filter}
use Rattle.sqlite_trees.proofs.TreeLemmas.{IsTable-put_row, all-put_row}
use Rattle.cookie_parts.specs.Cookie.{Row as Cookie}
use Rattle.cookie_laws.specs.Contents.{Contents}
use Rattle.cookie_laws.specs.Rows.{Key, add_created, removed, row_of, same_key, same_key-true}
use Rattle.cookie_laws.specs.Runs.{Clear, step}
use Rattle.cookie_laws.proofs.CreationKeys.{made_after, once_from_made}
use Rattle.cookie_laws.proofs.LimitedRows.{row-created}
use Rattle.cookie_table.specs.Columns.{table_row}
use Rattle.cookie_table.specs.FromColumns.{cookie_in}
use Rattle.cookie_table.specs.WholeSeconds.{in_whole_seconds}
use Rattle.durable_table.specs.Changes.{after}
use Rattle.durable_table.specs.declared.change.Change.{Change}
use Rattle.durable_table.specs.declared.change.Change.TheVariants.{Put, Delete}
use Rattle.cookie_durable.specs.Numbering.{GivesId, Ids, IsNumbered, IsRowOf, SetsId, Touches, WritesCookie, id_of}
use Rattle.cookie_durable.specs.SavedTables.{Holds, IsSavedAs}
use Rattle.cookie_durable.proofs.IdsByKey.{among_values, own_rowid}
use Rattle.cookie_durable.proofs.RowEdits.{all_deleted, has_one, other_rows, put_row-last, rowid-holds, rows-push, rows-put, rows-without, zip_rows, zip_weaker}
use Rattle.cookie_durable.proofs.TouchedKeys.{removed-absent}

-- what the table of such rows holds
pub numbered-holds : (store : Contents) (ids : Ids) (next : ℤ) (rows : List TableRow) → IsNumbered store ids next rows → Holds store rows
numbered-holds store ids next rows numbered =
    zip_weaker (IsRowOf store ids) (λ (key : Key) (row : TableRow). IsSavedAs (row_of key store.rows) row) (λ key row is. is.1) store.created rows
    numbered.saved

-- a rowid is below the next
pub next_above : (n : ℤ) → value_cmp (Int n) (Int (n +ℤ pos 1)) ≡ Less
next_above n = value_cmp-Int n (n +ℤ pos 1) ∙ above n
  where
    above : (n : ℤ) → int_cmp n (n +ℤ pos 1) ≡ Less
    above n = grind (arith, ints)

moved : (store : Contents) (ids : Ids) (next new_next : ℤ) (rows new_rows : List TableRow) → new_next ≡ next → new_rows ≡ rows
    → IsNumbered store ids next rows → IsNumbered store ids new_next new_rows
moved store ids next new_next rows new_rows a b numbered =
    subst (IsNumbered store ids new_next) (sym b) (subst (λ (n : ℤ). IsNumbered store ids n rows) (sym a) numbered)

-- a call that touches this key, and the rowids before and after
module _ (before store : Contents) (key : Key) (ids new_ids : Ids) (next : ℤ) (rows : List TableRow)
    (touches : Touches key before store) (numbered : IsNumbered before ids next rows) where
  -- the key has a rowid if it was created
  any_created : is_some (id_of key ids) ≡ list_any (same_key key) before.created
  any_created = numbered.has_id key ∙ row-created key before (once_from_made before numbered.order)

  stored : is_some (row_of key store.rows) ≡ true → store.created ≡ add_created before.created key
  stored is = touches.created ∙ cond-true (is_some (row_of key store.rows)) _ _ is

  gone : row_of key store.rows ≡ None → store.created ≡ removed (same_key key) before.created
  gone none = touches.created ∙ cond-false (is_some (row_of key store.rows)) _ _ (ap is_some none)

  -- the rows of the key before
  own : (id : ℤ) → id_of key ids ≡ Some id → (row : TableRow) → IsRowOf before ids key row → rowid row ≡ Int id
  own id found row is = own_rowid (id_of key ids) id row found is.0

  saved_as : (cookie : Cookie) (row : TableRow) → row_of key store.rows ≡ Some cookie → cookie_in row ≡ Some (in_whole_seconds cookie)
      → IsSavedAs (row_of key store.rows) row
  saved_as cookie row is reads = subst (λ (o : Option Cookie). IsSavedAs o row) (sym is) (inr reads)

  -- the key has this rowid afterwards, or none
  module _ (new_id : Option ℤ) (sets : SetsId key new_id ids new_ids) where
    has_ids : is_some new_id ≡ is_some (row_of key store.rows) → (other : Key) → is_some (id_of other new_ids) ≡ is_some (row_of other store.rows)
    has_ids same other =
        ⊎_elim
        (λ here. subst (λ (k : Key). is_some (id_of k new_ids) ≡ is_some (row_of k store.rows)) (same_key-true key other here)
        (ap is_some sets.0 ∙ same))
        (λ away. ap is_some (sets.1 other away) ∙ numbered.has_id other ∙ sym (ap is_some (touches.others other away)))
        (cases_Bool (same_key key other))

    -- the row of another key is still the row of its cookie
    other_row : (other : Key) (row : TableRow) → same_key key other ≡ false → IsRowOf before ids other row → IsRowOf store new_ids other row
    other_row other row away is =
        (ap (option_map Int) (sets.1 other away) ∙ is.0, subst (λ (o : Option Cookie). IsSavedAs o row) (sym (touches.others other away)) is.1)

  own_row : (id : ℤ) → SetsId key (Some id) ids new_ids → (row : TableRow) → rowid row ≡ Int id → IsSavedAs (row_of key store.rows) row
      → IsRowOf store new_ids key row
  own_row id sets row is saved = (ap (option_map Int) sets.0 ∙ ap Some (sym is), saved)

  -- the cookie had a row: it is replaced
  replaced : (cookie : Cookie) (id : ℤ) → row_of key store.rows ≡ Some cookie → id_of key ids ≡ Some id → SetsId key (Some id) ids new_ids
      → cookie_in (table_row id cookie) ≡ Some (in_whole_seconds cookie) → IsNumbered store new_ids next (put_row (table_row id cookie) rows)
  replaced cookie id is found sets reads =
      let row = table_row id cookie in
      let there : list_any (same_key key) before.created ≡ true = sym any_created ∙ ap is_some found in
      let same : store.created ≡ before.created = stored (ap is_some is) ∙ cond-true (list_any (same_key key) before.created) _ _ there in
      record {
        order = touches.order;
        unlimited = touches.unlimited;
        has_id = has_ids (Some id) sets (sym (ap is_some is));
        saved = subst (λ (keys : List Key). AllZip (IsRowOf store new_ids) keys (put_row row rows)) (sym same)
            (rows-put (IsRowOf before ids) (IsRowOf store new_ids) key (other_row (Some id) sets) id (own id found) row refl
            (own_row id sets row refl (saved_as cookie row is reads)) before.created rows numbered.order.1 there numbered.ascending numbered.saved);
        ascending = IsTable-put_row row rows numbered.ascending;
        below = all-put_row (λ (r : TableRow). value_cmp (rowid r) (Int next) ≡ Less) row rows
            (rowid-holds (λ (v : Value). value_cmp v (Int next) ≡ Less) (IsRowOf before ids) key id (own id found) before.created rows there
            numbered.saved numbered.below) numbered.below;
      }

  -- the cookie is new: its row is last, under a rowid above the others
  pub pushed : (id new_next : ℤ) (row : TableRow) → rowid row ≡ Int id → is_some (row_of key store.rows) ≡ true
      → IsSavedAs (row_of key store.rows) row → id_of key ids ≡ None → SetsId key (Some id) ids new_ids → IsTable (rows ++ row ∷ [])
      → AllByRecursion (λ (r : TableRow). value_cmp (rowid r) (Int new_next) ≡ Less) (rows ++ row ∷ [])
      → IsNumbered store new_ids new_next (rows ++ row ∷ [])
  pushed id new_next row at is saved new sets table below =
      let none : list_any (same_key key) before.created ≡ false = sym any_created ∙ ap is_some new in
      let last : store.created ≡ before.created ++ key ∷ [] = stored is ∙ cond-false (list_any (same_key key) before.created) _ _ none in
      record {
        order = touches.order;
        unlimited = touches.unlimited;
        has_id = has_ids (Some id) sets (sym is);
        saved = subst (λ (keys : List Key). AllZip (IsRowOf store new_ids) keys (rows ++ row ∷ [])) (sym last)
            (rows-push (IsRowOf store new_ids) before.created rows key row
            (other_rows (IsRowOf before ids) (IsRowOf store new_ids) key (other_row (Some id) sets) before.created rows none numbered.saved)
            (own_row id sets row at saved));
        ascending = table;
        below = below;
      }

  -- it takes the next rowid
  appended : (cookie : Cookie) → row_of key store.rows ≡ Some cookie → id_of key ids ≡ None → SetsId key (Some next) ids new_ids
      → cookie_in (table_row next cookie) ≡ Some (in_whole_seconds cookie)
      → IsNumbered store new_ids (next +ℤ pos 1) (put_row (table_row next cookie) rows)
  appended cookie is new sets reads =
      let row = table_row next cookie in
      let last : put_row row rows ≡ rows ++ row ∷ [] = put_row-last row rows numbered.below in
      let table : IsTable (rows ++ row ∷ []) = subst IsTable last (IsTable-put_row row rows numbered.ascending) in
      let below = all-put_row (λ (r : TableRow). value_cmp (rowid r) (Int (next +ℤ pos 1)) ≡ Less) row rows (next_above next)
      (all_weaker _ (λ (r : TableRow). value_cmp (rowid r) (Int (next +ℤ pos 1)) ≡ Less)
      (λ r lower. value_cmp_total.trans (rowid r) (Int next) (Int (next +ℤ pos 1)) lower (next_above next)) rows numbered.below) in
      subst (IsNumbered store new_ids (next +ℤ pos 1)) (sym last)
      (pushed next (next +ℤ pos 1) row refl (ap is_some is) (saved_as cookie row is reads) new sets table
      (subst (AllByRecursion (λ (r : TableRow). value_cmp (rowid r) (Int (next +ℤ pos 1)) ≡ Less)) last below))

  -- the cookie had a row and is gone: the row is deleted
  deleted : (id : ℤ) → row_of key store.rows ≡ None → id_of key ids ≡ Some id → SetsId key None ids new_ids
      → IsNumbered store new_ids next (without_rowid id rows)
  deleted id none found sets = record {
    order = touches.order;
    unlimited = touches.unlimited;
    has_id = has_ids None sets (sym (ap is_some none));
    saved = subst (λ (keys : List Key). AllZip (IsRowOf store new_ids) keys (without_rowid id rows)) (sym (gone none))
        (rows-without (IsRowOf before ids) (IsRowOf store new_ids) key (other_row None sets) id (own id found) before.created rows numbered.order.1
        (sym any_created ∙ ap is_some found) numbered.ascending numbered.saved);
    ascending = ascending-filter _ _ rows numbered.ascending;
    below = all-filter _ _ rows numbered.below;
  }

  -- there was no cookie, and there is none: nothing is written
  untouched : row_of key store.rows ≡ None → id_of key ids ≡ None → SetsId key None ids new_ids → IsNumbered store new_ids next rows
  untouched none new sets =
      let absent : list_any (same_key key) before.created ≡ false = sym any_created ∙ ap is_some new in
      record {
        order = touches.order;
        unlimited = touches.unlimited;
        has_id = has_ids None sets (sym (ap is_some none));
        saved = subst (λ (keys : List Key). AllZip (IsRowOf store new_ids) keys rows) (sym (gone none ∙ removed-absent key before.created absent))
            (other_rows (IsRowOf before ids) (IsRowOf store new_ids) key (other_row None sets) before.created rows absent numbered.saved);
        ascending = numbered.ascending;
        below = numbered.below;
      }

  -- the rows after the change that writes the cookie of the key
  by_change : (new_next : ℤ) (change : Option Change) (cookie : Option Cookie) (had : Option ℤ)
      → row_of key store.rows ≡ cookie → id_of key ids ≡ had → WritesCookie cookie key ids next new_ids new_next change
      → IsNumbered store new_ids new_next (after (option_to_list change) rows)
  by_change new_next change (Some cookie) (Some had) is found writes =
      let id = writes.2.0 in
      let given : (id ≡ had) × (new_next ≡ next) = subst (λ (o : Option ℤ). GivesId o next id new_next) found writes.2.1 in
      moved store new_ids next new_next (put_row (table_row id cookie) rows) (after (option_to_list change) rows) given.1
      (ap (λ (o : Option Change). after (option_to_list o) rows) (writes.1 ∙ ap Some writes.2.3))
      (replaced cookie id is (found ∙ ap Some (sym given.0)) writes.2.2 writes.2.4)
  by_change new_next change (Some cookie) None is found writes =
      let id = writes.2.0 in
      let given : (id ≡ next) × (new_next ≡ next +ℤ pos 1) = subst (λ (o : Option ℤ). GivesId o next id new_next) found writes.2.1 in
      moved store new_ids (next +ℤ pos 1) new_next (put_row (table_row next cookie) rows) (after (option_to_list change) rows) given.1
      (ap (λ (o : Option Change). after (option_to_list o) rows) (writes.1 ∙ ap Some (writes.2.3 ∙ ap (λ (n : ℤ). Put (table_row n cookie)) given.0)))
      (appended cookie is found (subst (λ (n : ℤ). SetsId key (Some n) ids new_ids) given.0 writes.2.2)
      (subst (λ (n : ℤ). cookie_in (table_row n cookie) ≡ Some (in_whole_seconds cookie)) given.0 writes.2.4))
  by_change new_next change None (Some had) is found writes =
      moved store new_ids next new_next (without_rowid had rows) (after (option_to_list change) rows) writes.1
      (ap (λ (o : Option Change). after (option_to_list o) rows) (writes.2 ∙ ap (option_map Delete) found))
      (deleted had is found writes.0)
  by_change new_next change None None is found writes =
      moved store new_ids next new_next rows (after (option_to_list change) rows) writes.1
      (ap (λ (o : Option Change). after (option_to_list o) rows) (writes.2 ∙ ap (option_map Delete) found))
      (untouched is found writes.0)

  pub written : (new_next : ℤ) (change : Option Change) → WritesCookie (row_of key store.rows) key ids next new_ids new_next change
      → IsNumbered store new_ids new_next (after (option_to_list change) rows)
  written new_next change writes = by_change new_next change (row_of key store.rows) (id_of key ids) refl refl writes

-- no rows are left after those of all rowids were deleted
pub none_left : (store : Contents) (ids : Ids) (next : ℤ) (rows : List TableRow) → IsNumbered store ids next rows
    → after (map Delete (values_of ids)) rows ≡ []
none_left store ids next rows numbered =
    all_deleted (values_of ids) rows (zip_rows (IsRowOf store ids) (λ (row : TableRow). has_one (values_of ids) row ≡ true)
    (λ key row is. among_values key ids row is.0) store.created rows numbered.saved)

-- the rows after all cookies were removed
pub cleared : (store : Contents) (ids : Ids) (next : ℤ) (rows : List TableRow) → IsNumbered store ids next rows
    → IsNumbered (step Clear store).store [] next (after (map Delete (values_of ids)) rows)
cleared store ids next rows numbered =
    let none : IsNumbered (step Clear store).store [] next [] = record {
      order = made_after (Clear ∷ []) store numbered.order;
      unlimited = numbered.unlimited;
      has_id = λ key. refl;
      saved = tt;
      ascending = tt;
      below = tt;
    } in
    subst (IsNumbered (step Clear store).store [] next) (sym (none_left store ids next rows numbered)) none
