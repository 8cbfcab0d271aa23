use Rattle.std.proofs.Common.{◌≡◌, drop, take, false, map}
use Rattle.std.specs.List.{list_any}
use Rattle.serde_json.specs.View.{view}
use Rattle.cookie_forms.specs.Saved.{saved_view}
use Rattle.cookie_forms.specs.ToJson.{is_early, saved_tree}
use Rattle.cookie_forms.proofs.value_writer.values_of.Given as goal

abbrev pub invariant-loop-saved : goal.invariant-loop-saved
invariant-loop-saved l =
    (list_any is_early (map saved_view (drop l.saved-index l.list)) ≡ false)
    × (map view l.items.items ≡ map saved_tree (map saved_view (take l.saved-index l.list)))
