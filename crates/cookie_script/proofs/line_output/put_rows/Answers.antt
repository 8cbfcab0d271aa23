use Rattle.cookie_script.proofs.Gathering.{gathers_nothing, gathers_stopped, gathers_then, next_row, rows_parts, rows_passed}
use Rattle.cookie_script.proofs.line_output.put_rows.Goals as goal

pub loop-row-init : goal.loop-row-init
loop-row-init g c =
    record { can = tt; ends = tt; rest = c.into_iter-row-iterator.ensures.into_iter_gives; buffered = gathers_nothing _ _ }

pub loop-row-preserved : goal.loop-row-preserved
loop-row-preserved g c = record {
  can = tt;
  ends = tt;
  rest = rows_passed c.loop-row.yielded c.in-Some.row _ _ _ c.in-Some.ensures.steps c.loop-row.invariant.rest;
  buffered =
      rw (next_row c.loop-row.yielded c.in-Some.row)
      (gathers_then _ tt _ _ c.loop-row.invariant.buffered c.in_ok-put_row.ensures);
}

pub returns-in_err-put_row : goal.returns-in_err-put_row
returns-in_err-put_row g c =
    rw (← rows_parts c.loop-row.yielded c.in-Some.row _ _ _ c.in-Some.ensures.steps c.loop-row.invariant.rest)
    (gathers_stopped _ _ _ _ c.from_residual.ensures.0 (gathers_then _ tt _ _ c.loop-row.invariant.buffered c.in_err-put_row.ensures))
