-- No call has failed, and what was buffered before and the rows so far were written, except what is buffered now.
use Rattle.std.proofs.Common.{◌≡◌, ◌++◌, Ok, map}
use Rattle.cookie_device.specs.declared.device.DeviceFailed.{DeviceFailed}
use Rattle.cookie_script.specs.LineOutput.{Gathers}
use Rattle.cookie_script.specs.Script.{rows_text}
use Rattle.cookie_script.proofs.line_output.put_rows.Given as goal

abbrev pub invariant-loop-row : goal.invariant-loop-row
invariant-loop-row g l = record {
  can : (goal.iterator-loop-row g).can_next l.row-iterator;
  ends : (goal.iterator-loop-row g).is_finite l.row-iterator;
  rest : map (λ c. c.now) l.yielded ++ l.row-iterator ≡ l.fn.rows;
  buffered :
      Gathers {T = Unit {0}} {E = DeviceFailed} (Ok tt) (g.W.Sink.state l.initial.sink) (g.W.Sink.state l.sink) l.initial.out l.out
      (rows_text (map (λ c. c.now) l.yielded));
}
