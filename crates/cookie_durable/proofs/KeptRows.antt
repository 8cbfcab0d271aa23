-- The rows that an open keeps, after the commit and after a crash.
use Rattle.std.proofs.Common.{◌≡◌, ◌⊎◌, ◌≤◌, ℕ, Bool, false, List, ap, ap₂, subst₂, ◌∙◌, inl, inr, arith}
use Rattle.sqlite_value.specs.Order.{Row as TableRow}
use Rattle.sqlite_trees.specs.Tree.{Trees}
use Rattle.sqlite_trees.specs.View.{View, doubt, IsClean, IsQuiet, IsShaped}
use Rattle.sqlite_trees.specs.declared.store.Shape.TheVariants.{Table}
use Rattle.durable_table.specs.Changes.{after, in_table}
use Rattle.durable_table.specs.Transactions.{CommitsChanges, IsReady}
use Rattle.durable_table.specs.declared.change.Change.{Change}
use Rattle.durable_table.proofs.InTable.{in_table-at}
use Rattle.cookie_durable.specs.Durable.{IsUnwritten}
use Rattle.cookie_durable.specs.Sessions.{kept_rows, session_deletions, KeepsRows}
use Rattle.cookie_durable.proofs.SessionRows.{swept}

-- the changes leave the rows of persistent cookies in a table
pub left_rows : (table : ℕ) (v : View) → IsReady table v → v.is_broken ≡ false → IsShaped (v.shape table) (v.trees table)
    → after (session_deletions (v.committed table)) (v.committed table) ≡ kept_rows false (v.committed table)
left_rows table v ready sound shaped =
    let at : IsShaped Table (v.committed table) = subst₂ IsShaped ready.shape (ap (λ (t : Trees). t table) (ready.settled sound)) shaped in
    swept (v.committed table) at.0 at.1

module _ (table : ℕ) (changes : List Change) (old mid : View) (unwritten : IsUnwritten old mid) (listed : changes ≡ session_deletions (old.committed table))
    (leaves : after (session_deletions (old.committed table)) (old.committed table) ≡ kept_rows false (old.committed table)) where
  -- with these changes the table has the rows that are kept
  pub changed_kept : (db : Trees) → db ≡ in_table table (after changes) mid.committed → db table ≡ kept_rows false (old.committed table)
  changed_kept db is =
      ap (λ (t : Trees). t table) is ∙ in_table-at table (after changes) mid.committed
      ∙ ap₂ (λ (cs : List Change) (rs : List TableRow). after cs rs) listed (ap (λ (v : View). v.committed table) unwritten.1) ∙ leaves

  pub committed_kept : (done : View) → CommitsChanges table changes mid done → done.committed table ≡ kept_rows false (old.committed table)
  committed_kept done commits = changed_kept done.committed (ap (λ (v : View). v.committed) commits.is)

-- a read and a commit
pub kept_through : {S : Type 0} (view : S → View) (faults : S → ℕ) (recovers : S → Trees → Type 0) (Shielded : S → Type 0) (table : ℕ) (changes : List Change) (a b c : S)
    → IsQuiet view faults recovers Shielded a b → (Shielded b → Shielded c) → doubt (view b).is_clean ≤ doubt (view c).is_clean
    → (IsClean (view c) → (db : Trees) → recovers c db → recovers b db ⊎ (db ≡ in_table table (after changes) (view b).committed))
    → (IsClean (view b) → IsUnwritten (view a) (view b) × (changes ≡ session_deletions ((view a).committed table)))
    → (IsClean (view a) → after (session_deletions ((view a).committed table)) ((view a).committed table) ≡ kept_rows false ((view a).committed table))
    → KeepsRows view recovers Shielded table false a c
kept_through view faults recovers Shielded table changes a b c quiet shield clean crash read leaves = record {
  shield = λ x. shield (quiet.shield x);
  clean = omega (arith, quiet.clean, clean);
  outcomes = λ now db may.
      let mid : IsClean (view b) = omega (arith, now, clean) in
      let first : IsClean (view a) = omega (arith, mid, quiet.clean) in
      elim (crash now db may) [
        | inl was ↦ inl (quiet.outcomes db was)
        | inr new ↦ inr (changed_kept table changes (view a) (view b) (read mid).0 (read mid).1 (leaves first) db new)
      ];
}

-- a call that writes nothing, after it
pub kept_on : {S : Type 0} (view : S → View) (faults : S → ℕ) (recovers : S → Trees → Type 0) (Shielded : S → Type 0) (table : ℕ) (keep_session : Bool) (a b c : S)
    → KeepsRows view recovers Shielded table keep_session a b → IsQuiet view faults recovers Shielded b c → KeepsRows view recovers Shielded table keep_session a c
kept_on view faults recovers Shielded table keep_session a b c kept quiet = record {
  shield = λ x. quiet.shield (kept.shield x);
  clean = omega (arith, kept.clean, quiet.clean);
  outcomes = λ now db may. kept.outcomes (omega (arith, now, quiet.clean)) db (quiet.outcomes db may);
}
