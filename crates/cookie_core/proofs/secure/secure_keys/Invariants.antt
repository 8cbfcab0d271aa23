-- The keys of the Secure rows so far were added.
use Rattle.std.proofs.Common.{◌≡◌, ◌++◌, map}
use Rattle.std.specs.List.{All}
use Rattle.cookie_core.specs.SecureIndexes.{IsKeyed}
use Rattle.cookie_core.proofs.secure.secure_keys.Given as goal

abbrev pub invariant-loop-row : goal.invariant-loop-row
invariant-loop-row l = record {
  keyed : All (IsKeyed l.keys) (map (λ c. c.now) l.yielded);
  rest : map (λ c. c.now) l.yielded ++ l.row-iterator ≡ l.rows.rows;
}
