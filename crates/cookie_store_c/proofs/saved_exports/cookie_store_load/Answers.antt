use Rattle.std.proofs.Common.{sym, w64}
use Rattle.std.proofs.lemmas.Int.{to_z-of_z}
use Rattle.cookie_store_c.specs.declared.status.Status.TheVariants.{HasStore}
use Rattle.cookie_store_c.proofs.LoadReports as reports
use Rattle.cookie_store_c.proofs.saved_exports.cookie_store_load.Goals as goal

pub returns-in-Some-clause-outcome : goal.returns-in-Some-clause-outcome
returns-in-Some-clause-outcome c =
    (HasStore, c.code.ensures, rw (← c.in-Some.ensures.taken) (reports.has_store _ _ c.args.lines.now _ c.put.ensures.store))

pub returns-in-Ok-clause-outcome : goal.returns-in-Ok-clause-outcome
returns-in-Ok-clause-outcome c =
    let now = to_z-of_z w64 c.args.now c.ranges.now in (
      c.begin_loaded.result,
      c.code-in-Ok.ensures,
      reports.creates _ _ c.args.lines.now (sym c.in_default.ensures.taken) c.in-Ok.loaded.store c.in-Ok.loaded.malformed.items
          (rw now at c.in-Ok.ensures.loaded) _ _ _ _ c.begin_loaded.ensures.outcome,
    )

pub returns-in-Err-clause-outcome : goal.returns-in-Err-clause-outcome
returns-in-Err-clause-outcome c =
    let now = to_z-of_z w64 c.args.now c.ranges.now in (
      c.report.result,
      c.code-in-Err.ensures,
      reports.fails _ _ c.args.lines.now (sym c.in_default.ensures.taken) c.in-Err.rejection.status c.in-Err.rejection.line
          (rw now at c.in-Err.ensures.rejected) _ _ _ _ c.report.ensures.status c.take.ensures.empty c.report.ensures.lines
          c.report.ensures.malformed,
    )
