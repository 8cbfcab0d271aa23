-- The rows so far stand at the front.
use Rattle.std.proofs.Common.{◌≡◌, ◌++◌, length, map}
use Rattle.cookie_store_c.specs.Buffers.{at_start}
use Rattle.cookie_store_c.specs.CookieRows.{cookie_row}
use Rattle.cookie_store_c.specs.RowIters.{remaining_rows}
use Rattle.cookie_store_c.proofs.cookie_row.put_rows.Given as goal

abbrev pub invariant-loop-row : goal.invariant-loop-row
invariant-loop-row l = record {
  can : goal.iterator-loop-row.can_next l.row-iterator;
  ends : goal.iterator-loop-row.is_finite l.row-iterator;
  rest : map (λ c. c.now) l.yielded ++ remaining_rows l.row-iterator ≡ remaining_rows l.fn.all;
  place : l.place ≡ length l.yielded;
  filled : l.rows ≡ at_start (map cookie_row (map (λ c. c.now) l.yielded)) l.fn.rows;
}
