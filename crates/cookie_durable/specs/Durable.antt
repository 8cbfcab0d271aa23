-- A durable store as contracts see it, and what its file holds.
use Rattle.std.specs.Prelude.{◌≡◌, ◌⊎◌, ◌≤◌, ℕ, ◌+◌, ℤ, Bool, false, true, IsTrue, List, length, take, Result, Ok, Err}
use Rattle.std.specs.List.{All}
use Rattle.sqlite_value.specs.Order.{Row as TableRow}
use Rattle.sqlite_trees.specs.Tree.{Trees}
use Rattle.sqlite_trees.specs.View.{View, IsClean}
use Rattle.cookie_laws.specs.Contents.{Contents}
use Rattle.cookie_laws.specs.Runs.{Call, store_after}
use Rattle.durable_table.specs.Changes.{after, HasRowid}
use Rattle.durable_table.specs.Transactions.{IsReady}
use Rattle.durable_table.specs.declared.change.Change.{Change}
use Rattle.cookie_durable.specs.Numbering.{Ids, IsNumbered}
use Rattle.cookie_durable.specs.SavedTables.{Holds}
use Rattle.cookie_durable.specs.declared.durable_error.DurableError.{DurableError}
use Rattle.cookie_durable.specs.declared.durable_error.DurableError.TheVariants.{NotWritten}

-- A durable store:
-- - `store`: the cookies
-- - `file`: the file, and `table`: the number of the table in it
-- - `ids`: the keys of the cookies with their rowids, and `next`: the rowid of the next new cookie
-- - `is_failed`: whether a write failed
pub record Durable (S : Type 0) : Type 0 where
  pub store : Contents
  pub file : S
  pub table : ℕ
  pub ids : Ids
  pub next : ℤ
  pub is_failed : Bool

-- the file is open, and the table has the cookies of the store
pub record IsSaved (store : Contents) (ids : Ids) (next : ℤ) (table : ℕ) (v : View) : Type 0 where
  pub is_open : IsTrue v.is_open
  pub sound : v.is_broken ≡ false
  pub numbered : IsNumbered store ids next (v.committed table)

-- nothing is pending, and unless a write failed, the table has the cookies of the store
pub record IsInStep {S : Type 0} (d : Durable S) (v : View) : Type 0 where
  pub ready : IsClean v → IsReady d.table v
  pub saved : d.is_failed ≡ false → IsClean v → IsSaved d.store d.ids d.next d.table v

-- the table will have the cookies of the store once these changes are committed
pub record WillSave {S : Type 0} (d : Durable S) (changes : List Change) (v : View) : Type 0 where
  pub is_open : IsTrue v.is_open
  pub sound : v.is_broken ≡ false
  pub numbered : IsNumbered d.store d.ids d.next (after changes (v.committed d.table))

-- the file has no open transaction, and unless a write failed, the table will have the cookies of the store once these changes are
-- committed
pub record IsStaged {S : Type 0} (d : Durable S) (changes : List Change) (v : View) : Type 0 where
  pub ready : IsClean v → IsReady d.table v
  pub keyed : All HasRowid changes
  pub saved : d.is_failed ≡ false → IsClean v → WillSave d changes v

-- only the cursors moved
abbrev pub IsUnwritten : View → View → Type 0
IsUnwritten old new = (old.is_broken ≡ false) × (new ≡ record old { cursors = new.cursors })

-- the cookies were changed, and the change was not committed
abbrev pub IsNotWritten : DurableError → Type 0
IsNotWritten (NotWritten cause) = Unit {0}
IsNotWritten other = ⊥

-- What a call leaves that changes the cookies, by its result:
-- - `Ok`: the cookies after the call, in a store that works as before
-- - `NotWritten`: the cookies after the call, in a store that has failed
-- - another error: the store as it was
abbrev pub ChangesTo : {T S : Type 0} → Result T DurableError → Durable S → Durable S → Contents → Type 0
ChangesTo (Ok value) old new after = (new.store ≡ after) × (new.is_failed ≡ old.is_failed)
ChangesTo (Err (NotWritten cause)) old new after = (new.store ≡ after) × (new.is_failed ≡ true)
ChangesTo (Err other) old new after = new ≡ old

-- a crash leaves the table as it was, or with the cookies after the call
abbrev pub IsAtomic : {S : Type 0} → (S → View) → (S → Trees → Type 0) → Durable S → Durable S → Contents → Type 0
IsAtomic view recovers old new after =
    IsClean (view new.file) → (db : Trees) → recovers new.file db → recovers old.file db ⊎ Holds after (db old.table)

-- the table has the store after the first `count` calls: all of the first `done`, and at most one more
pub record HoldsAfterPrefix (done : ℕ) (calls : List Call) (store : Contents) (rows : List TableRow) : Type 0 where
  pub count : ℕ
  pub all_done : done ≤ count
  pub one_more : count ≤ done + 1
  pub within : count ≤ length calls
  pub is : Holds (store_after (take count calls) store) rows
