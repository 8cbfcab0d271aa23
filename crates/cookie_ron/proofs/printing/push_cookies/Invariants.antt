use Rattle.std.proofs.Common.{◌≡◌, ◌++◌, drop, take, false, flat_map, map, string_bytes}
use Rattle.std.specs.List.{list_any}
use Rattle.cookie_forms.specs.Saved.{saved_view}
use Rattle.cookie_forms.specs.ToJson.{is_early, with_expiry_text}
use Rattle.cookie_ron.specs.Printed.{printed_cookie}
use Rattle.cookie_ron.proofs.printing.push_cookies.Given as goal

abbrev pub invariant-loop-saved : goal.invariant-loop-saved
invariant-loop-saved l =
    (list_any is_early (map saved_view (drop l.saved-index l.list)) ≡ false)
    × (string_bytes l.text ≡ string_bytes l.fn.text ++ flat_map printed_cookie (map with_expiry_text (map saved_view (take l.saved-index l.list))))
