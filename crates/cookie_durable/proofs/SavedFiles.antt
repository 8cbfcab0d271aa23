-- What a file holds after changes were committed, or may hold after a crash.
use Rattle.std.proofs.Common.{◌≡◌, ℕ, ℤ, Bool, true, false, List, Option, ⊎_elim, true≢false, sym, ap, subst, ◌∙◌}
use Rattle.std.proofs.lemmas.Bool.{cases_Bool}
use Rattle.sqlite_trees.specs.Tree.{Trees}
use Rattle.sqlite_trees.specs.Objects.{catalog_tree}
use Rattle.sqlite_trees.specs.View.{IsClean, IsReopened, View}
use Rattle.sqlite_trees.specs.declared.store.Shape.{Shape}
use Rattle.cookie_psl.specs.Rules.{RuleList}
use Rattle.cookie_laws.specs.Contents.{Contents}
use Rattle.durable_table.specs.Changes.{after, in_table}
use Rattle.durable_table.specs.Transactions.{IsReady}
use Rattle.durable_table.specs.declared.change.Change.{Change}
use Rattle.durable_table.proofs.InTable.{in_table-at}
use Rattle.cookie_durable.specs.Durable.{Durable, IsSaved, IsUnwritten, WillSave}
use Rattle.cookie_durable.specs.Numbering.{Ids, IsNumbered}
use Rattle.cookie_durable.specs.SavedTables.{Holds}
use Rattle.cookie_durable.proofs.WrittenCookies.{numbered-holds}

-- a file with the changes that were made in memory has the cookies
pub will-hold : {S : Type 0} (d : Durable S) (changes : List Change) (v : View) → WillSave d changes v
    → (db : Trees) → db ≡ in_table d.table (after changes) v.committed → Holds d.store (db d.table)
will-hold d changes v will db is =
    subst (Holds d.store) (sym (ap (λ (trees : Trees). trees d.table) is ∙ in_table-at d.table (after changes) v.committed))
    (numbered-holds d.store d.ids d.next (after changes (v.committed d.table)) will.numbered)

-- a file that is open has after a crash what it has now
pub settled-holds : (store : Contents) (ids : Ids) (next : ℤ) (table : ℕ) (v : View) → IsSaved store ids next table v
    → (db : Trees) → db ≡ v.committed → Holds store (db table)
settled-holds store ids next table v saved db is =
    subst (Holds store) (sym (ap (λ (trees : Trees). trees table) is)) (numbered-holds store ids next (v.committed table) saved.numbered)

-- what is not broken is open
pub open_if_sound : (is_open is_broken : Bool) → (is_open ≡ false → is_broken ≡ true) → is_broken ≡ false → is_open ≡ true
open_if_sound is_open is_broken shut sound = ⊎_elim (λ is. is) (λ is. absurd (true≢false (sym (shut is) ∙ sound))) (cases_Bool is_open)

-- only the cursors moved, so nothing is pending
pub unwritten-ready : (table : ℕ) (old new : View) → IsUnwritten old new → IsReady table old → IsReady table new
unwritten-ready table old new unwritten ready =
    let same : IsReady table (record old { cursors = new.cursors }) = record {
      shape = ready.shape;
      unaltered = ready.unaltered;
      settled = ready.settled;
    } in
    subst (IsReady table) (sym unwritten.1) same

-- a file that was opened again after a crash, with nothing pending before
pub reopened-ready : (table : ℕ) (old new : View) → IsReopened old new
    → (new.is_broken ≡ false → new.trees catalog_tree ≡ new.committed catalog_tree
    → (new.shape ≡ new.committed_shape) × (new.reals ≡ new.committed_reals))
    → IsClean new → IsReady table old → IsReady table new
reopened-ready table old new reopened unaltered clean ready = record {
  shape = ap (λ (shape : ℕ → Shape). shape table) (reopened.shape ready.unaltered) ∙ ready.shape;
  unaltered = (unaltered (reopened.sound clean) (ap (λ (trees : Trees). trees catalog_tree) reopened.clean)).0;
  settled = λ _. reopened.clean;
}

-- only the cursors moved, and the cookies of the table were loaded
pub opened-saved : (store found : Contents) (ids : Ids) (next found_next : ℤ) (table : ℕ) (old new : View) → IsUnwritten old new
    → (new.is_open ≡ false → new.is_broken ≡ true) → store ≡ found → next ≡ found_next → IsNumbered found ids found_next (old.committed table)
    → IsSaved store ids next table new
opened-saved store found ids next found_next table old new unwritten shut store_is next_is numbered =
    let sound : new.is_broken ≡ false = ap (λ (v : View). v.is_broken) unwritten.1 ∙ unwritten.0 in
    record {
      is_open = open_if_sound new.is_open new.is_broken shut sound;
      sound = sound;
      numbered = subst (IsNumbered store ids next) (sym (ap (λ (v : View). v.committed table) unwritten.1))
          (subst (λ (s : Contents). IsNumbered s ids next (old.committed table)) (sym store_is)
          (subst (λ (n : ℤ). IsNumbered found ids n (old.committed table)) (sym next_is) numbered));
    }

-- the table has the cookies of a store whatever public suffix list the store has
pub relisted : (store : Contents) (suffixes : Option RuleList) (ids : Ids) (next : ℤ) (table : ℕ) (v : View) → IsSaved store ids next table v
    → IsSaved (record store { suffixes = suffixes }) ids next table v
relisted store suffixes ids next table v saved = record {
  is_open = saved.is_open;
  sound = saved.sound;
  numbered = record {
    order = saved.numbered.order;
    unlimited = saved.numbered.unlimited;
    has_id = saved.numbered.has_id;
    saved = saved.numbered.saved;
    ascending = saved.numbered.ascending;
    below = saved.numbered.below;
  };
}
