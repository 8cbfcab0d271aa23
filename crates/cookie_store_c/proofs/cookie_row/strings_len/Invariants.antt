-- The length of the strings of the rows so far.
use Rattle.std.proofs.Common.{◌≡◌, ◌++◌, flat_map, length, map}
use Rattle.cookie_store_c.specs.CookieRows.{row_strings}
use Rattle.cookie_store_c.specs.RowIters.{remaining_rows}
use Rattle.cookie_store_c.proofs.cookie_row.strings_len.Given as goal

abbrev pub invariant-loop-row : goal.invariant-loop-row
invariant-loop-row l = record {
  can : goal.iterator-loop-row.can_next l.row-iterator;
  ends : goal.iterator-loop-row.is_finite l.row-iterator;
  rest : map (λ c. c.now) l.yielded ++ remaining_rows l.row-iterator ≡ remaining_rows l.fn.all;
  counted : l.total ≡ length (flat_map row_strings (map (λ c. c.now) l.yielded));
}
