use Rattle.std.proofs.Common.{ap, arith}
use Rattle.sqlite_trees.specs.View.{IsClean}
use Rattle.cookie_durable.specs.Durable.{Durable}
use Rattle.cookie_durable.proofs.CommittedCalls.{handed_back}
use Rattle.cookie_durable.proofs.SavedFiles.{reopened-ready}
use Rattle.cookie_durable.proofs.durable_store.DurableStore.apply_each_then_crash.Goals as goal

pub open-requires : goal.open-requires
open-requires g c = λ clean.
    let view = g.S.Store.view in
    let before : IsClean (view c.into_file-file.result) = omega (arith, clean, c.crash_and_reopen.ensures.clean) in
    reopened-ready c.cookies.inside.table (view c.into_file-file.result) (view c.crash_and_reopen.new.self) c.in_ok-crash_and_reopen.ensures.fresh
    (g.met.S.Store.unaltered c.crash_and_reopen.new.self) clean
    (handed_back view c.apply_each-replies.new.self c.cookies.inside.table c.into_file-file.result (ap (λ (d : Durable g.row.S.Denot). d.table) c.cookies.view_is)
    c.into_file-file.ensures c.apply_each-replies.ensures.in_step before)
