-- The saved cookies so far precede those of the entries that are left.
use Rattle.std.proofs.Common.{◌≡◌, ◌++◌, map, option_map}
use Rattle.std.specs.Vec.Iter.{into_iter_items}
use Rattle.cookie_forms.specs.Saved.{saved_view}
use Rattle.cookie_forms.specs.FromJson.{all_with_parsed_expiry}
use Rattle.cookie_ron.specs.Views.{entry_view}
use Rattle.cookie_ron.proofs.reading.with_parsed_expiries.Given as goal

abbrev pub invariant-loop-entry : goal.invariant-loop-entry
invariant-loop-entry l = record {
  can : (goal.iterator-loop-entry).can_next l.entry-iterator;
  ends : (goal.iterator-loop-entry).is_finite l.entry-iterator;
  whole : all_with_parsed_expiry (map entry_view l.fn.entries.items)
      ≡ option_map (λ rest. map saved_view l.list.items ++ rest) (all_with_parsed_expiry (map entry_view (into_iter_items l.entry-iterator)));
}
