use Rattle.std.proofs.Common.{◌≡◌, ap, length, sym, inl, inr, subst, subst₂, ap₂, ◌∙◌}
use Rattle.sqlite_pool.specs.Stored.{Recovers}
use Rattle.sqlite_pool.specs.StoredLaws.{recovers_once}
use Rattle.sqlite_store.specs.Db.{IsFile}
use Rattle.sqlite_store.specs.FileStore.{state}
use Rattle.sqlite_store.specs.Listing.{file_trees}
use Rattle.sqlite_store.specs.Unopened.{image, state_of, wanted_by}
use Rattle.cookie_durable.specs.DatabaseFiles.{cookies_schema, listed_in}
use Rattle.cookie_durable.proofs.OpenedFiles.{created, err_by, ok_by, opened, then_created, then_opened}
use Rattle.cookie_durable.proofs.attaching.open_or_create.Goals as goal

pub returns-then-is_blank-clause-found : goal.returns-then-is_blank-clause-found
returns-then-is_blank-clause-found g c =
    let e = c.create.ensures in
    ok_by c.create.result _ _ _ _ _ e.honest e.empty e.empty e.empty
    (λ it honest empty _ _ now. inr (((state_of c.args.files).page_size, inl (c.requires.blank c.if-is_blank.true (honest now))), empty now))

pub returns-then-is_blank-clause-unharmed : goal.returns-then-is_blank-clause-unharmed
returns-then-is_blank-clause-unharmed g c =
    let e = c.create.ensures in
    err_by c.create.result _ _ _ e.falls e.unharmed
    (λ left falls made now. created c.args.files left.1 ((state_of c.args.files).page_size, inl (c.requires.blank c.if-is_blank.true (falls now))) c.requires.schema (made now))

pub returns-in-Ok-true-clause-found : goal.returns-in-Ok-true-clause-found
returns-in-Ok-true-clause-found g c =
    let e = c.open.ensures in
    let old = c.args.files in
    let mid = c.lists_table.new.files in
    let size = (state_of old).page_size in
    let schema : wanted_by mid ≡ cookies_schema = c.lists_table.ensures.schema ∙ c.requires.schema in
    ok_by c.open.result _ _ _ _ _ e.honest e.found e.sound e.reads (λ it honest found sound reads now.
    let first = c.lists_table.ensures.kept (honest now) in
    let read = c.in-Ok-true.ensures.lists (honest now) in
    let same : read.pages ≡ (state it).committed =
    recovers_once size (image mid) read.pages (state it).committed read.again (subst (λ n. Recovers n (image mid) (state it).committed) first.size (found now)) in
    inl (
      size,
      (state it).committed,
      subst (Recovers size (image old)) same read.found,
      (subst₂ (λ n s. ∥ IsFile n s (state it).committed ∥₁) first.size schema (sound now), ap (λ p. length (listed_in size p)) (sym same) ∙ read.alone c.in-Ok-true.field-0-test),
      reads now ∙ ap₂ (λ n s. file_trees n s (state it).committed 0) first.size schema,
    ))

pub returns-in-Ok-true-clause-unharmed : goal.returns-in-Ok-true-clause-unharmed
returns-in-Ok-true-clause-unharmed g c =
    let e = c.open.ensures in
    err_by c.open.result _ _ _ e.falls e.unharmed
    (λ left falls kept now. then_opened _ c.args.files c.lists_table.new.files left.1 (c.lists_table.ensures.kept (falls now)) (c.in-Ok-true.ensures.lists (falls now)) (kept now))

pub returns-in-Ok-false-clause-found : goal.returns-in-Ok-false-clause-found
returns-in-Ok-false-clause-found g c =
    let e = c.create-in-Ok-false.ensures in
    ok_by c.create-in-Ok-false.result _ _ _ _ _ e.honest e.empty e.empty e.empty (λ it honest empty _ _ now.
    let read = c.in-Ok-false.ensures.lists (honest now) in
    inr (((state_of c.args.files).page_size, inr (read.pages, read.found, read.nothing c.in-Ok-false.field-0-test)), empty now))

pub returns-in-Ok-false-clause-unharmed : goal.returns-in-Ok-false-clause-unharmed
returns-in-Ok-false-clause-unharmed g c =
    let e = c.create-in-Ok-false.ensures in
    let schema : wanted_by c.lists_table.new.files ≡ cookies_schema = c.lists_table.ensures.schema ∙ c.requires.schema in
    err_by c.create-in-Ok-false.result _ _ _ e.falls e.unharmed (λ left falls made now.
    let read = c.in-Ok-false.ensures.lists (falls now) in
    then_created _ c.args.files c.lists_table.new.files left.1 (c.lists_table.ensures.kept (falls now)) read
    ((state_of c.args.files).page_size, inr (read.pages, read.found, read.nothing c.in-Ok-false.field-0-test)) schema (made now))

pub returns-in-Err-clause-unharmed : goal.returns-in-Err-clause-unharmed
returns-in-Err-clause-unharmed g c now = opened c.args.files c.lists_table.new.files (c.lists_table.ensures.kept now)
