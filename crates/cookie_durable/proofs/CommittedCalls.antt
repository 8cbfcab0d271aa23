-- What the table of a store in step with its file has, and what a crash leaves between calls.
use Rattle.std.proofs.Common.{◌≡◌, ◌≤◌, ℕ, false, IsTrue, arith, subst, sym}
use Rattle.sqlite_trees.specs.Tree.{Trees}
use Rattle.sqlite_trees.specs.View.{IsClean, View, doubt}
use Rattle.durable_table.specs.Transactions.{IsReady}
use Rattle.cookie_durable.specs.Durable.{Durable, IsInStep, IsSaved}
use Rattle.cookie_durable.specs.SavedTables.{Holds}
use Rattle.cookie_durable.proofs.SavedFiles.{settled-holds}

-- the table has the cookies of the store
abbrev pub HasSaved : {S : Type 0} → (S → View) → Durable S → Type 0
HasSaved view d = IsSaved d.store d.ids d.next d.table (view d.file)

-- the table had the cookies before a call on a store in step with its file
pub saved_before : {S : Type 0} (view : S → View) (inside old : Durable S) → inside ≡ old → IsInStep old (view old.file) → inside.is_failed ≡ false
    → (new : S) → doubt (view inside.file).is_clean ≤ doubt (view new).is_clean → IsClean (view new) → HasSaved view inside
saved_before {S = S} view inside old same in_step works new later clean =
    let began : IsInStep inside (view inside.file) = subst (λ (d : Durable S). IsInStep d (view d.file)) (sym same) in_step in
    began.saved works (omega (arith, clean, later))

-- after a crash between two calls the table has the cookies
pub found_again : {S : Type 0} (view : S → View) (recovers : S → Trees → Type 0)
    → ((file : S) (db : Trees) → IsTrue (view file).is_open → recovers file db → db ≡ (view file).committed)
    → (d : Durable S) → IsInStep d (view d.file) → d.is_failed ≡ false → IsClean (view d.file) → (db : Trees) → recovers d.file db
    → Holds d.store (db d.table)
found_again view recovers settled d in_step works clean db may =
    let saved = in_step.saved works clean in
    settled-holds d.store d.ids d.next d.table (view d.file) saved db (settled d.file db saved.is_open may)

-- nothing is pending in the file that a store hands back
pub handed_back : {S : Type 0} (view : S → View) (d : Durable S) (table : ℕ) (file : S) → table ≡ d.table → file ≡ d.file
    → IsInStep d (view d.file) → IsClean (view file) → IsReady table (view file)
handed_back {S = S} view d table file table_is file_is in_step clean =
    subst (λ (t : ℕ). IsReady t (view file)) (sym table_is)
    (subst (λ (f : S). IsClean (view f) → IsReady d.table (view f)) (sym file_is) in_step.ready clean)
