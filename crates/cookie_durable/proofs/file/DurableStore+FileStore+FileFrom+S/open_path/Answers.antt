use Rattle.std.proofs.Common.{ℕ, Bool, cond, List, Result, Ok, Err, IfOk, ap₂, subst}
use Rattle.std.specs.Result.{result_map_both}
use Rattle.sqlite_disk.specs.Events.{Event, replay}
use Rattle.sqlite_wal.specs.Recovery.{Image}
use Rattle.cookie_durable.specs.DatabaseFiles.{FindsCookies}
use Rattle.cookie_durable.proofs.file.DurableStore+FileStore+FileFrom+S.open_path.Goals as goal

abbrev image : List ℕ → List ℕ → Image
image log db = record { log = log; db = db }

abbrev seen : List ℕ → List ℕ → Bool → List Event → List ℕ
seen log db is_log history = (replay (cond is_log log db) history).seen

-- what holds of what was opened holds of it without what is left of an open that failed
if_opened : {T E L : Type 0} (P Q : T → Type 0) (opened : Result T (E × L)) → IfOk opened P → ((it : T) → P it → Q it)
    → IfOk (result_map_both (λ it. it) (λ left. left.0) opened) Q
if_opened P Q (Ok it) holds follows = follows it holds
if_opened P Q (Err left) holds follows = tt

pub returns-clause-in_step : goal.returns-clause-in_step
returns-clause-in_step g c = rw c.without_leftover.ensures (if_opened _ _ c.open_files-opened.result c.open_files-opened.ensures.in_step (λ it holds. holds))

pub returns-clause-works : goal.returns-clause-works
returns-clause-works g c = rw c.without_leftover.ensures (if_opened _ _ c.open_files-opened.result c.open_files-opened.ensures.works (λ it holds. holds))

pub returns-clause-found : goal.returns-clause-found
returns-clause-found g c =
    let (log, db) = c.in_ok-files.ensures.fresh in
    let same = ap₂ image (ap₂ (seen g.S.Start.log g.S.Start.db) log.0 log.1) (ap₂ (seen g.S.Start.log g.S.Start.db) db.0 db.1) in
    rw c.without_leftover.ensures
    (if_opened _ _ c.open_files-opened.result c.open_files-opened.ensures.found
    (λ it found clean. subst (λ i. FindsCookies c.args.keep_session i it.store) same (found clean)))

pub returns-clause-guarded : goal.returns-clause-guarded
returns-clause-guarded g c = rw c.without_leftover.ensures (if_opened _ _ c.open_files-opened.result c.open_files-opened.ensures.guarded (λ it holds. holds))
