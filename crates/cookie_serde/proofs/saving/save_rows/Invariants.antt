-- A line was written for each row so far that is saved, and no write has failed.
use Rattle.std.proofs.Common.{◌≡◌, ◌++◌, filter, map}
use Rattle.std.specs.Fn.{FnReturnsAt}
use Rattle.cookie_serde.specs.Saving.{WritesRows}
use Rattle.cookie_serde.specs.Selections.{is_selected}
use Rattle.cookie_serde.proofs.saving.save_rows.Given as goal

abbrev pub invariant-loop-row : goal.invariant-loop-row
invariant-loop-row g l = record {
  lines : WritesRows (FnReturnsAt g.F.Fn l.text_of) (filter (is_selected l.which) (map (λ c. c.now) l.yielded))
      (g.W.Sink.state l.initial.sink).contents (g.W.Sink.state l.sink).contents;
  count : (g.W.Sink.state l.sink).failed ≡ (g.W.Sink.state l.initial.sink).failed;
  rest : map (λ c. c.now) l.yielded ++ l.row-iterator ≡ l.store.rows;
}
