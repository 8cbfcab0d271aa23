use Rattle.std.proofs.Common.{ap, inl, inr, arith}
use Rattle.sqlite_trees.specs.Tree.{Trees}
use Rattle.sqlite_trees.specs.View.{IsClean}
use Rattle.sqlite_trees.proofs.Doubt.{clean_of, no_doubt}
use Rattle.sqlite_store.specs.FileStore.{view}
use Rattle.sqlite_store.specs.Laws.{settled_at}
use Rattle.cookie_durable.proofs.OpenedFiles.{opened_ready}
use Rattle.cookie_durable.proofs.file.DurableStore+FileStore+D.open_files.Goals as goal

pub returns-in-Err-clause-unharmed : goal.returns-in-Err-clause-unharmed
returns-in-Err-clause-unharmed g c clean = c.in-Err.ensures.unharmed clean c.args.keep_session

pub open_kept-requires-clause-ready : goal.open_kept-requires-clause-ready
open_kept-requires-clause-ready g c clean = opened_ready c.in-Ok.store c.in-Ok.ensures.ready c.in-Ok.ensures.schema

pub returns-in-Ok-open_kept-clause-found : goal.returns-in-Ok-open_kept-clause-found
returns-in-Ok-open_kept-clause-found g c now =
    let store = c.in-Ok.store in
    let clean : IsClean (view store) = omega (arith, now, c.in-Ok-open_kept.ensures.kept.clean) in
    ((view store).committed 0, c.in-Ok.ensures.found (clean_of _ clean), c.in-Ok-open_kept.ensures.found now)

pub returns-in-Ok-open_kept-clause-guarded : goal.returns-in-Ok-open_kept-clause-guarded
returns-in-Ok-open_kept-clause-guarded g c now =
    let store = c.in-Ok.store in
    let clean : IsClean (view store) = omega (arith, now, c.in-Ok-open_kept.ensures.kept.clean) in
    c.in-Ok-open_kept.ensures.kept.shield (c.in-Ok.ensures.guarded (clean_of _ clean))

pub returns-in-Err-open_kept-clause-unharmed : goal.returns-in-Err-open_kept-clause-unharmed
returns-in-Err-open_kept-clause-unharmed g c now =
    let store = c.in-Ok.store in
    let kept = c.in-Err-open_kept.ensures.unharmed in
    let after : IsClean (view c.in-Err-open_kept.left) = no_doubt _ now in
    let clean : IsClean (view store) = omega (arith, after, kept.clean) in (
      (view store).committed 0,
      c.in-Ok.ensures.found (clean_of _ clean),
      λ db may. elim (kept.outcomes after db may) [
        | inl was ↦ inl (ap (λ (t : Trees). t 0) (settled_at store g.met.D.Disk.seen_may_stay db (c.in-Ok.ensures.ready.is_open clean) was))
        | inr new ↦ inr new
      ],
    )
