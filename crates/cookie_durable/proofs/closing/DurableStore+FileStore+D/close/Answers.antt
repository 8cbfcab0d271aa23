use Rattle.std.proofs.Common.{◌≡◌, OnOk, arith, subst}
use Rattle.sqlite_trees.specs.View.{IsQuiet}
use Rattle.sqlite_store.specs.FileStore.{HasSpilled, faults, is_shielded, log_frames, recovers, view}
use Rattle.sqlite_store.specs.Laws.{settled_at}
use Rattle.cookie_durable.proofs.CommittedCalls.{found_again}
use Rattle.cookie_durable.proofs.closing.DurableStore+FileStore+D.close.Goals as goal

pub returns-clause-copied : goal.returns-clause-copied
returns-clause-copied g c =
    subst (λ file. OnOk c.checkpoint-copied.result (¬ HasSpilled file → log_frames c.checkpoint-copied.new.self ≡ 0)) c.into_file-file.ensures
    c.checkpoint-copied.ensures.moved

pub returns-clause-quiet : goal.returns-clause-quiet
returns-clause-quiet g c =
    subst (λ file. IsQuiet view faults recovers is_shielded file c.checkpoint-copied.new.self) c.into_file-file.ensures
    c.checkpoint-copied.ensures.quiet

pub returns-clause-crash : goal.returns-clause-crash
returns-clause-crash g c works clean db may =
    let quiet = returns-clause-quiet g c in
    found_again view recovers (λ file db is_open may. settled_at file g.met.D.Disk.seen_may_stay db is_open may) c.args.self c.requires works
    (omega (arith, clean, quiet.clean)) db (quiet.outcomes db may)
