-- The session is in step with its file.
use Rattle.cookie_durable.specs.Durable.{IsInStep}
use Rattle.durable_session.proofs.execute_lines.Given as goal

abbrev pub invariant-loop-line : goal.invariant-loop-line
invariant-loop-line g l = record {
  can : (goal.iterator-loop-line g).can_next l.line-iterator;
  ends : (goal.iterator-loop-line g).is_finite l.line-iterator;
  in_step : IsInStep l.session (g.S.Store.view l.session.file);
}
