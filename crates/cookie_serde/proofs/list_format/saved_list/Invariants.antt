-- The list has the saved forms of the rows so far that are saved.
use Rattle.std.proofs.Common.{◌≡◌, ◌++◌, filter, map}
use Rattle.cookie_forms.specs.Saved.{saved_view}
use Rattle.cookie_parts.specs.SavedConversion.{saved_of}
use Rattle.cookie_serde.specs.Selections.{is_selected}
use Rattle.cookie_serde.proofs.list_format.saved_list.Given as goal

abbrev pub invariant-loop-row : goal.invariant-loop-row
invariant-loop-row l = record {
  saved : map saved_view l.list.items ≡ map saved_of (filter (is_selected l.which) (map (λ c. c.now) l.yielded));
  rest : map (λ c. c.now) l.yielded ++ l.row-iterator ≡ l.store.rows;
}
