-- The rows so far that are saved were copied.
use Rattle.std.proofs.Common.{◌≡◌, ◌++◌, filter, map}
use Rattle.cookie_serde.specs.Selections.{is_selected}
use Rattle.cookie_serde.proofs.custom.copies_of.Given as goal

abbrev pub invariant-loop-row : goal.invariant-loop-row
invariant-loop-row l = record {
  copied : l.copies.items ≡ filter (is_selected l.which) (map (λ c. c.now) l.yielded);
  rest : map (λ c. c.now) l.yielded ++ l.row-iterator ≡ l.store.rows;
}
