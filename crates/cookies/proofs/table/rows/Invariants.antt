-- The cells of the cookies so far.
use Rattle.std.proofs.Common.{◌≡◌, ◌++◌, map, string_bytes}
use Rattle.cookie_words.specs.Moments.{moment_of}
use Rattle.cookies.specs.Cells.{cells_of}
use Rattle.cookies.proofs.table.rows.Given as goal

abbrev pub invariant-loop-cookie : goal.invariant-loop-cookie
invariant-loop-cookie l = record {
  cells : map (map string_bytes) l.rows.items ≡ map (cells_of (moment_of l.now)) (map (λ c. c.now) l.yielded);
  rest : map (λ c. c.now) l.yielded ++ l.cookie-iterator ≡ l.store.rows;
}
