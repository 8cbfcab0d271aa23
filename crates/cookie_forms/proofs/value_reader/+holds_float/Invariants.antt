use Rattle.std.proofs.Common.{◌≡◌, drop}
use Rattle.serde_json.specs.View.{view, items_view, members_view}
use Rattle.serde_json.specs.Written.{has_float, items_have_float, members_have_float}
use Rattle.cookie_forms.proofs.value_reader.+holds_float.Given as goal

abbrev pub decreases-holds_float : goal.decreases-holds_float
decreases-holds_float l = goal.size-holds_float l

abbrev pub invariant-loop-item : goal.invariant-loop-item
invariant-loop-item l = has_float (view l.value) ≡ items_have_float (items_view (drop l.item-index l.item-items))

abbrev pub invariant-loop-item-2 : goal.invariant-loop-item-2
invariant-loop-item-2 l = has_float (view l.value) ≡ members_have_float (members_view l.item-iterator)
