use Rattle.std.proofs.Common.{◌≡◌, inl, inr, None, sym, ap, subst, subst₂, ◌∙◌, rules}
use Rattle.sqlite_wal.specs.Files.{seen_image, outcomes}
use Rattle.sqlite_wal.specs.Reads.{are_clean}
use Rattle.sqlite_pool.specs.Opening.{IsBlankFile}
use Rattle.sqlite_store.specs.FileStore.{view}
use Rattle.sqlite_store.specs.Unopened.{image}
use Rattle.cookie_durable.specs.DatabaseFiles.{image_of, FindsRows, IsHarmless}
use Rattle.cookie_durable.proofs.OpenedFiles.{pool_files, same_image}
use Rattle.cookie_durable.proofs.attaching.attach.Goals as goal

pub open_or_create-requires-clause-blank : goal.open_or_create-requires-clause-blank
open_or_create-requires-clause-blank g c is_none clean =
    let fresh = c.in-Ok-unopened.fresh in
    let made = c.in-Ok-unopened.ensures in
    let read = c.find_size.ensures in
    let none : c.in-Ok.found ≡ None = search rules in
    let both = sym ((pool_files fresh.pool).0 ∙ ap (λ f. are_clean g.D.Disk f.0 f.1) made.files) ∙ clean in
    let seen : image fresh ≡ image_of g.D.Disk c.args.files = ap (λ f. seen_image g.D.Disk f.0 f.1) made.files ∙ same_image read.log read.db in
    subst₂ IsBlankFile (sym (made.size none)) (sym seen) (c.in-Ok.ensures.none both none)

pub returns-in-Ok-open_or_create-clause-found : goal.returns-in-Ok-open_or_create-clause-found
returns-in-Ok-open_or_create-clause-found g c now =
    let fresh = c.in-Ok-unopened.fresh in
    let made = c.in-Ok-unopened.ensures in
    let read = c.find_size.ensures in
    let seen : image fresh ≡ image_of g.D.Disk c.args.files = ap (λ f. seen_image g.D.Disk f.0 f.1) made.files ∙ same_image read.log read.db in
    subst (λ i. FindsRows i ((view c.in-Ok-open_or_create.store).committed 0)) seen (c.in-Ok-open_or_create.ensures.found now)

pub returns-in-Err-open_or_create-clause-unharmed : goal.returns-in-Err-open_or_create-clause-unharmed
returns-in-Err-open_or_create-clause-unharmed g c now keep_session after may =
    let fresh = c.in-Ok-unopened.fresh in
    let made = c.in-Ok-unopened.ensures in
    let read = c.find_size.ensures in
    let seen : image fresh ≡ image_of g.D.Disk c.args.files = ap (λ f. seen_image g.D.Disk f.0 f.1) made.files ∙ same_image read.log read.db in
    let spared = c.in-Err-open_or_create.ensures.unharmed now in
    elim (spared.crash after may) [
      | inl was ↦
          let old = subst (λ f. outcomes g.D.Disk f.0 f.1 after) made.files ((pool_files fresh.pool).1 after was) in
          inl (read.log.crash _ old.0, read.db.crash _ old.1)
      | inr harmless ↦ inr (subst₂ (λ n i. IsHarmless n i after) (sym spared.size) seen harmless)
    ]
