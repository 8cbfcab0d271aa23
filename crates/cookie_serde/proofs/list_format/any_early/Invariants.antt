-- No row so far that is saved expires before the year 0.
use Rattle.std.proofs.Common.{◌≡◌, ◌++◌, false, filter, map}
use Rattle.std.specs.List.{list_any}
use Rattle.cookie_forms.specs.ToJson.{is_early}
use Rattle.cookie_parts.specs.SavedConversion.{saved_of}
use Rattle.cookie_serde.specs.Selections.{is_selected}
use Rattle.cookie_serde.proofs.list_format.any_early.Given as goal

abbrev pub invariant-loop-row : goal.invariant-loop-row
invariant-loop-row l = record {
  none : list_any is_early (map saved_of (filter (is_selected l.which) (map (λ c. c.now) l.yielded))) ≡ false;
  rest : map (λ c. c.now) l.yielded ++ l.row-iterator ≡ l.store.rows;
}
