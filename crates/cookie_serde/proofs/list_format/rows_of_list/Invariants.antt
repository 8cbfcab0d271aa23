-- The rows are built from the cookies so far; all cookies are these, and then those of the remaining saved forms.
use Rattle.std.proofs.Common.{◌≡◌, ◌++◌, List, map}
use Rattle.std.specs.Result.{result_map_both}
use Rattle.std.specs.Vec.Iter.{into_iter_items}
use Rattle.cookie_forms.specs.Saved.{saved_view}
use Rattle.cookie_parts.specs.Cookie.{Row}
use Rattle.cookie_serde.specs.SavedForms.{cookies_of_saved}
use Rattle.cookie_serde.specs.Selections.{built_from}
use Rattle.cookie_serde.proofs.list_format.rows_of_list.Given as goal

abbrev pub invariant-loop-saved : goal.invariant-loop-saved
invariant-loop-saved l = record {
  can : (goal.iterator-loop-saved).can_next l.saved-iterator;
  ends : (goal.iterator-loop-saved).is_finite l.saved-iterator;
  built : (done : List Row) × (l.rows ≡ built_from l.which done)
      × (cookies_of_saved (map saved_view l.fn.list.items)
      ≡ result_map_both (λ others. done ++ others) (λ fault. fault)
      (cookies_of_saved (map saved_view (into_iter_items l.saved-iterator))));
  all : l.yielded ++ into_iter_items l.saved-iterator ≡ l.fn.list.items;
}
