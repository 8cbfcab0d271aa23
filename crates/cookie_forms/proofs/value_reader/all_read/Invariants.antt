use Rattle.std.proofs.Common.{◌≡◌, drop, is_some}
use Rattle.serde_json.specs.View.{items_view}
use Rattle.cookie_forms.specs.FromJson.{all_in}
use Rattle.cookie_forms.proofs.value_reader.all_read.Given as goal

abbrev pub invariant-loop-item : goal.invariant-loop-item
invariant-loop-item l =
    is_some (all_in (items_view l.items)) ≡ is_some (all_in (items_view (drop l.item-index l.items)))
