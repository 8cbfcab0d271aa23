-- What an open that goes on, or fails, leaves of the files.
use Rattle.std.proofs.Common.{◌≡◌, ◌⊎◌, Bool, inl, inr, refl, sym, ap₂, subst, subst₂, ◌∙◌, List, Option, ap, Result, Ok, Err, IfOk, IfErr}
use Rattle.sqlite_disk.specs.declared.Disk.{Ghosts}
use Rattle.sqlite_disk.specs.declared.Files.{Files}
use Rattle.sqlite_wal.specs.Files.{outcomes}
use Rattle.sqlite_wal.specs.Reads.{are_clean, OnlyReads}
use Rattle.sqlite_wal.specs.Recovery.{Image}
use Rattle.sqlite_pages.specs.PageMap.{PageMap}
use Rattle.sqlite_pool.specs.declared.pool.Pool.{Pool}
use Rattle.sqlite_pool.specs.Opening.{IsBlankFile, IsNew}
use Rattle.sqlite_pool.specs.Pool.{state, files}
use Rattle.sqlite_pool.specs.Stored.{Recovers, RecoversAs}
use Rattle.sqlite_pool.specs.StoredLaws.{carried, RecoversAs-from}
use Rattle.sqlite_store.specs.FileStore.{schema_of, view, IsReady}
use Rattle.sqlite_store.specs.Listing.{all_shapes}
use Rattle.sqlite_store.specs.Opening.{IsFresh}
use Rattle.sqlite_store.specs.Saved.{kept_schema}
use Rattle.sqlite_store.specs.Unopened.{image, state_of, wanted_by, Creates, IsAsBefore, Opens}
use Rattle.sqlite_store.specs.declared.catalog.Wanted.{Wanted}
use Rattle.sqlite_store.specs.declared.saved.Saved.{Saved}
use Rattle.sqlite_store.specs.declared.store.FileStore.{FileStore}
use Rattle.sqlite_store.specs.declared.store.open.Unopened.{Unopened}
use Rattle.durable_table.specs.Transactions.{IsReady as IsTableReady}
use Rattle.cookie_durable.specs.DatabaseFiles.{cookies_schema, image_of, HasNoTable, HasRead, IsHarmless, IsSpared, IsUnderWay}

pub ok_by : {T E : Type 0} (r : Result T E) (P Q R S Z : T → Type 0) → IfOk r P → IfOk r Q → IfOk r R → IfOk r S → ((x : T) → P x → Q x → R x → S x → Z x) → IfOk r Z
ok_by (Ok x) P Q R S Z p q r s so = so x p q r s
ok_by (Err e) P Q R S Z p q r s so = tt

pub err_by : {T E : Type 0} (r : Result T E) (P Q Z : E → Type 0) → IfErr r P → IfErr r Q → ((e : E) → P e → Q e → Z e) → IfErr r Z
err_by (Ok x) P Q Z p q so = tt
err_by (Err e) P Q Z p q so = so e p q

-- the pool is clean if its files are, and leaves what they may leave
pub pool_files : {D : Type 0} {g : Ghosts D} (it : Pool D g)
    → ((state it).is_clean ≡ are_clean g (files it).0 (files it).1)
    × ((after : Image) → (state it).may_leave after → outcomes g (files it).0 (files it).1 after)
unfolding state files
pool_files it = (refl, λ after may. may.1)

-- reads change nothing that reads return
pub same_image : {D : Type 0} {g : Ghosts D} {old new : Files D} → OnlyReads g old.log new.log → OnlyReads g old.db new.db → image_of g new ≡ image_of g old
same_image log db = ap₂ (λ a b. let i : Image = record { log = a; db = b } in i) log.seen db.seen

module _ {D : Type 0} {g : Ghosts D} (old new : Unopened D g) where
  -- a recovery alone
  pub opened : Opens old (state_of new) → IsSpared old new
  opened o = record {
    size = o.size;
    crash = λ after may. elim (o.crash after may).same [ inl was ↦ inl was | inr alike ↦ inr (inl alike) ];
  }

  -- the table was being made
  pub created : HasNoTable (image old) → wanted_by old ≡ cookies_schema → Creates old (state_of new) → IsSpared old new
  created none schema made = record {
    size = made.size;
    crash = λ after may. elim (made.crash after may) [
      | inl was ↦ elim was.same [ inl same ↦ inl same | inr alike ↦ inr (inl alike) ]
      | inr way ↦
          let ours : IsUnderWay (state_of old).page_size after =
          subst (λ s. IsBlankFile (state_of old).page_size after ⊎ ((pages : PageMap) × Recovers (state_of old).page_size after pages × (IsNew (state_of old).page_size pages ⊎ ∥ IsFresh (state_of old).page_size s pages ∥₁))) schema way in
          inr (inr (none, ours))
    ];
  }

module _ {D : Type 0} {g : Ghosts D} (lists : Bool) (old mid new : Unopened D g) (first : Opens old (state_of mid)) (read : HasRead lists old mid) where
  as_before : (after : Image) → IsAsBefore mid after → (state_of old).may_leave after ⊎ IsHarmless (state_of old).page_size (image old) after
  as_before after before =
      let size = (state_of old).page_size in
      elim before.same [
        | inl was ↦ elim (first.crash after was).same [ inl same ↦ inl same | inr alike ↦ inr (inl alike) ]
        | inr alike ↦
            let now = carried size (image mid) after (subst (λ n. RecoversAs n (image mid) after) first.size alike) read.pages read.again in
            inr (inl (RecoversAs-from size (image old) after read.pages read.found now))
      ]

  -- two recoveries
  pub then_opened : Opens mid (state_of new) → IsSpared old new
  then_opened o = record { size = o.size ∙ first.size; crash = λ after may. as_before after (o.crash after may) }

  -- the table was being made in a database without one
  pub then_created : HasNoTable (image old) → wanted_by mid ≡ cookies_schema → Creates mid (state_of new) → IsSpared old new
  then_created none schema made = record {
    size = made.size ∙ first.size;
    crash = λ after may. elim (made.crash after may) [
      | inl was ↦ as_before after was
      | inr way ↦
          let ours : IsUnderWay (state_of old).page_size after =
          subst₂ (λ n s. IsBlankFile n after ⊎ ((pages : PageMap) × Recovers n after pages × (IsNew n pages ⊎ ∥ IsFresh n s pages ∥₁))) first.size schema way in
          inr (inr (none, ours))
    ];
  }

-- the table is tree 0, and nothing is pending
pub opened_ready : {D : Type 0} {g : Ghosts D} (it : FileStore D g) → IsReady it → schema_of it ≡ cookies_schema → IsTableReady 0 (view it)
unfolding all_shapes
opened_ready it ready schema = record {
  shape = ap (λ (s : List Wanted). all_shapes s 0) schema;
  unaltered = ap (λ (o : Option Saved). all_shapes (kept_schema o (schema_of it))) (sym ready.unaltered);
  settled = λ _. ready.clean;
}
