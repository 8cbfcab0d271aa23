-- What calls leave that change the cookies in memory, and then commit their changes.
use Rattle.std.proofs.Common.{◌≡◌, ◌⊎◌, ◌≤◌, ◌∙◌, ◌++◌, ℕ, false, true, true≢false, List, [], OnErr, OnOk, Result, Ok, Err, ap, arith, inl, inr, map, refl, subst, sym, ⊎_elim}
use Rattle.std.specs.List.{All}
use Rattle.std.specs.Map.{values_of}
use Rattle.std.proofs.lemmas.List.Elements.{All-append, All-nil}
use Rattle.sqlite_value.specs.Order.{Row as TableRow}
use Rattle.sqlite_trees.specs.Tree.{Trees}
use Rattle.sqlite_trees.specs.View.{IsClean, View, doubt}
use Rattle.cookie_laws.specs.Contents.{Contents}
use Rattle.cookie_laws.specs.Runs.{Clear, step}
use Rattle.durable_table.specs.Changes.{after, in_table, HasRowid}
use Rattle.durable_table.specs.Transactions.{IsReady}
use Rattle.durable_table.specs.declared.change.Change.{Change}
use Rattle.durable_table.specs.declared.change.Change.TheVariants.{Delete}
use Rattle.cookie_durable.specs.Durable.{Durable, IsAtomic, IsInStep, IsStaged, WillSave}
use Rattle.cookie_durable.specs.Numbering.{Ids, IsNumbered}
use Rattle.cookie_durable.specs.SavedTables.{Holds}
use Rattle.cookie_durable.specs.Sweeping.{HasRemoved, Shrinks}
use Rattle.cookie_durable.specs.declared.durable_error.DurableError.{DurableError}
use Rattle.cookie_durable.proofs.CommittedCalls.{HasSaved}
use Rattle.cookie_durable.proofs.SavedFiles.{will-hold}
use Rattle.cookie_durable.proofs.StagedRows.{cleared-numbered}

-- a store in step with its file, before any change
pub nothing_staged : {S : Type 0} (d : Durable S) (v : View) → IsInStep d v → IsStaged d [] v
nothing_staged d v in_step = record {
  ready = in_step.ready;
  keyed = All-nil HasRowid;
  saved = λ works clean.
      let saved = in_step.saved works clean in
      record { is_open = saved.is_open; sound = saved.sound; numbered = saved.numbered };
}

-- a crash leaves the table as it was, or with the cookies in memory, if it leaves all of their changes or none
pub changes_crash : {S : Type 0} (view : S → View) (recovers : S → Trees → Type 0) (inside old : Durable S) (changes : List Change) (new : S) → inside ≡ old
    → (IsClean (view new) → (db : Trees) → recovers new db
    → recovers inside.file db ⊎ (db ≡ in_table inside.table (after changes) (view inside.file).committed))
    → WillSave old changes (view old.file) → IsClean (view new) → (db : Trees) → recovers new db → recovers old.file db ⊎ Holds old.store (db old.table)
changes_crash {S = S} view recovers inside old changes new same crash will clean db may =
    ⊎_elim inl (λ is. inr (will-hold old changes (view old.file) will db is))
    (subst (λ (d : Durable S). recovers d.file db ⊎ (db ≡ in_table d.table (after changes) (view d.file).committed)) same (crash clean db may))

-- a call that changed the cookies in memory, and the changes of the table for it; `Left` says what the call leaves of the cookies
pub staged_after : {S : Type 0} (view : S → View) (inside old : Durable S) (Left : Contents → Type 0) (changes new_changes : List Change)
    (new : Durable S) → inside ≡ old → IsStaged old changes (view old.file) → inside.is_failed ≡ false
    → ((rows : List TableRow) → IsNumbered inside.store inside.ids inside.next rows → Left inside.store)
    → ((before : Contents) (rows : List TableRow) → Left before → IsNumbered before inside.ids inside.next (after changes rows)
    → IsNumbered new.store new.ids new.next (after new_changes rows))
    → (All HasRowid changes → All HasRowid new_changes) → new.file ≡ inside.file → new.table ≡ inside.table
    → IsStaged new new_changes (view new.file)
staged_after {S = S} view inside old Left changes new_changes new same was works left numbered keyed file table =
    let begun : IsStaged inside changes (view inside.file) = subst (λ (d : Durable S). IsStaged d changes (view d.file)) (sym same) was in
    subst (λ (f : S). IsStaged new new_changes (view f)) (sym file) (record {
      ready = subst (λ (t : ℕ). IsClean (view inside.file) → IsReady t (view inside.file)) (sym table) begun.ready;
      keyed = keyed begun.keyed;
      saved = λ _ clean.
          let will = begun.saved works clean in
          record {
            is_open = will.is_open;
            sound = will.sound;
            numbered = subst (λ (t : ℕ). IsNumbered new.store new.ids new.next (after new_changes ((view inside.file).committed t))) (sym table)
                (numbered inside.store _ (left _ will.numbered) will.numbered);
          };
    })

-- cookies were removed in memory from a store in step with its file, and then their rows: it is in step again, and a crash leaves
-- the table as it was, or with the cookies after the call
pub left_by_removal : {S : Type 0} (view : S → View) (recovers : S → Trees → Type 0) (inside old d new : Durable S) (left : Contents) → inside ≡ old
    → IsInStep old (view old.file) → d ≡ record inside { store = d.store }
    → ((rows : List TableRow) → IsNumbered inside.store inside.ids inside.next rows → Shrinks inside.store d.store) → d.store ≡ left
    → ((before : Durable S) → HasRemoved before d (view d.file) → IsInStep new (view new.file))
    → ((before : Durable S) → HasRemoved before d (view d.file) → IsAtomic view recovers before new d.store)
    → IsInStep new (view new.file) × IsAtomic view recovers old new left
left_by_removal {S = S} view recovers inside old d new left same in_step rest shrinks are leaves crash =
    let removed : HasRemoved old d (view d.file) =
    subst (λ (x : Durable S). IsInStep x (view x.file) → HasRemoved x d (view d.file)) same
    (λ begun. record { in_step = subst (λ (x : Durable S). IsInStep inside (view x.file)) (sym rest) begun; rest = rest; shrinks = shrinks }) in_step in
    (leaves old removed, subst (IsAtomic view recovers old new) are (crash old removed))

-- cookies were removed in memory, and these are the changes that delete their rows
pub removed_staged : {S : Type 0} (view : S → View) (before d : Durable S) (changes : List Change) (new : Durable S)
    → HasRemoved before d (view d.file) → d.is_failed ≡ false
    → ((kept : Contents) (rows : List TableRow) → Shrinks kept d.store → IsNumbered kept d.ids d.next rows
    → IsNumbered new.store new.ids new.next (after changes rows))
    → All HasRowid changes → new.file ≡ d.file → new.table ≡ d.table → IsStaged new changes (view new.file)
removed_staged {S = S} view before d changes new removed works numbered keyed file table =
    let same = removed.rest in
    let in_step : IsInStep before (view before.file) = subst (λ (x : Durable S). IsInStep before (view x.file)) same removed.in_step in
    staged_after view before before (λ kept. Shrinks kept d.store) [] changes new refl (nothing_staged before (view before.file) in_step)
    (sym (ap (λ (x : Durable S). x.is_failed) same) ∙ works) removed.shrinks
    (λ kept rows shrinks was. numbered kept rows shrinks (subst (λ (x : Durable S). IsNumbered kept x.ids x.next rows) (sym same) was))
    (λ _. keyed) (file ∙ ap (λ (x : Durable S). x.file) same) (table ∙ ap (λ (x : Durable S). x.table) same)

-- all cookies were removed in memory, and the changes that delete their rows added
pub cleared_staged : {S : Type 0} (view : S → View) (inside old : Durable S) (cleared : Contents) (ids : Ids) (changes deletions new_changes : List Change)
    → inside ≡ old → IsStaged old changes (view old.file) → inside.is_failed ≡ false
    → cleared ≡ (step Clear inside.store).store → ids ≡ [] → deletions ≡ map Delete (values_of inside.ids) → All HasRowid deletions
    → new_changes ≡ changes ++ deletions → IsStaged (record inside { store = cleared; ids = ids }) new_changes (view inside.file)
cleared_staged {S = S} view inside old cleared ids changes deletions new_changes same was works store_is ids_are deletions_are keyed are =
    let begun : IsStaged inside changes (view inside.file) = subst (λ (d : Durable S). IsStaged d changes (view d.file)) (sym same) was in
    record {
      ready = begun.ready;
      keyed = subst (All HasRowid) (sym are) (All-append HasRowid changes deletions begun.keyed keyed);
      saved = λ _ clean.
          let will = begun.saved works clean in
          record {
            is_open = will.is_open;
            sound = will.sound;
            numbered = cleared-numbered inside.store cleared inside.ids ids inside.next _ changes new_changes will.numbered deletions store_is ids_are
                deletions_are are;
          };
    }

-- changes that were made in memory, and their commit
module _ {S : Type 0} (view : S → View) (staged new : Durable S) (changes : List Change) (works : staged.is_failed ≡ false)
    (staged_is : IsStaged staged changes (view staged.file)) (later : doubt (view staged.file).is_clean ≤ doubt (view new.file).is_clean) where
  will_save : IsClean (view new.file) → WillSave staged changes (view staged.file)
  will_save clean = staged_is.saved works (omega (arith, clean, later))

  -- the store is in step with its file again
  pub committed-in_step : (result : Result Unit DurableError) → (IsClean (view new.file) → IsReady new.table (view new.file))
      → OnErr result (new.is_failed ≡ true)
      → OnOk result (WillSave staged changes (view staged.file) → IsClean (view new.file) → HasSaved view new) → IsInStep new (view new.file)
  committed-in_step (Ok value) ready failed saves = record { ready = ready; saved = λ still clean. saves (will_save clean) clean }
  committed-in_step (Err error) ready failed saves = record { ready = ready; saved = λ still. absurd (true≢false (sym failed ∙ still)) }

  -- a crash leaves the table as it was, or with the cookies after the call
  pub committed-atomic : (recovers : S → Trees → Type 0) (old : Durable S) (changed : Contents)
      → staged.store ≡ changed → staged.file ≡ old.file → staged.table ≡ old.table
      → (WillSave staged changes (view staged.file) → IsClean (view new.file) → (db : Trees) → recovers new.file db
      → recovers staged.file db ⊎ Holds staged.store (db staged.table)) → IsAtomic view recovers old new changed
  committed-atomic recovers old changed stored file table crash clean db may =
      subst (λ (f : S). recovers f db ⊎ Holds changed (db old.table)) file
      (subst (λ (s : Contents). recovers staged.file db ⊎ Holds s (db old.table)) stored
      (subst (λ (t : ℕ). recovers staged.file db ⊎ Holds staged.store (db t)) table (crash (will_save clean) clean db may)))
