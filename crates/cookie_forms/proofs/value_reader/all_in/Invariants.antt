use Rattle.std.proofs.Common.{◌≡◌, ◌++◌, map, drop, option_map}
use Rattle.serde_json.specs.View.{items_view}
use Rattle.cookie_forms.specs.Saved.{saved_view}
use Rattle.cookie_forms.specs.FromJson.{all_in}
use Rattle.cookie_forms.proofs.value_reader.all_in.Given as goal

abbrev pub invariant-loop-item : goal.invariant-loop-item
invariant-loop-item l =
    all_in (items_view l.items)
    ≡ option_map (λ rest. map saved_view l.list.items ++ rest) (all_in (items_view (drop l.item-index l.items)))
