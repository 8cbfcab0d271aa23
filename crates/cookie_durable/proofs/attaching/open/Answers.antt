use Rattle.std.proofs.Common.{◌≡◌, ap, ap₂, subst₂, ◌∙◌}
use Rattle.std.proofs.Math.Logic.{∥∥₁_map}
use Rattle.std.proofs.lemmas.Bool.{cond-true}
use Rattle.sqlite_trees.specs.Tree.{no_trees}
use Rattle.sqlite_trees.proofs.Doubt.{no_doubt}
use Rattle.sqlite_store.specs.Db.{IsFile}
use Rattle.sqlite_store.specs.FileStore.{state}
use Rattle.sqlite_store.specs.Listing.{file_trees}
use Rattle.sqlite_store.specs.Saved.{kept_schema}
use Rattle.sqlite_store.specs.Unopened.{wanted_by}
use Rattle.cookie_durable.proofs.attaching.open.Goals as goal

pub returns-in-Ok-clause-sound : goal.returns-in-Ok-clause-sound
returns-in-Ok-clause-sound g c now =
    let store = c.in-Ok.store in
    let e = c.in-Ok.ensures in
    let listing : kept_schema store.saved store.schema.items ≡ wanted_by c.args.files = ap (λ o. kept_schema o store.schema.items) e.ready.unaltered ∙ e.schema in
    ∥∥₁_map (store.stored (e.ready.is_open (no_doubt _ now))) (λ s. subst₂ (λ n x. IsFile n x (state store).committed) (e.kept now).size listing s.ours.file)

pub returns-in-Ok-clause-reads : goal.returns-in-Ok-clause-reads
returns-in-Ok-clause-reads g c now =
    let store = c.in-Ok.store in
    let e = c.in-Ok.ensures in
    let listing : kept_schema store.saved store.schema.items ≡ wanted_by c.args.files = ap (λ o. kept_schema o store.schema.items) e.ready.unaltered ∙ e.schema in
    ap (λ t. t 0) (cond-true _ (file_trees (state store).page_size (kept_schema store.saved store.schema.items) (state store).committed) no_trees now
    ∙ ap₂ (λ n s. file_trees n s (state store).committed) (e.kept now).size listing)
