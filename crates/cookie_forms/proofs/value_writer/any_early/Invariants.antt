use Rattle.std.proofs.Common.{◌≡◌, drop, map}
use Rattle.std.specs.List.{list_any}
use Rattle.cookie_forms.specs.Saved.{saved_view}
use Rattle.cookie_forms.specs.ToJson.{is_early}
use Rattle.cookie_forms.proofs.value_writer.any_early.Given as goal

abbrev pub invariant-loop-saved : goal.invariant-loop-saved
invariant-loop-saved l =
    list_any is_early (map saved_view l.list) ≡ list_any is_early (map saved_view (drop l.saved-index l.list))
