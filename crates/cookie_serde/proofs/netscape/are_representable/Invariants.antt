-- The format can represent all rows so far that are saved.
use Rattle.std.proofs.Common.{◌≡◌, ◌++◌, true, filter, map}
use Rattle.std.specs.List.{list_all}
use Rattle.cookie_netscape.specs.Written.{is_representable}
use Rattle.cookie_serde.specs.Selections.{is_selected}
use Rattle.cookie_serde.proofs.netscape.are_representable.Given as goal

abbrev pub invariant-loop-row : goal.invariant-loop-row
invariant-loop-row l = record {
  all : list_all is_representable (filter (is_selected l.which) (map (λ c. c.now) l.yielded)) ≡ true;
  rest : map (λ c. c.now) l.yielded ++ l.row-iterator ≡ l.store.rows;
}
