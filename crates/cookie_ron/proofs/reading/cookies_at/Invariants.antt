-- The cookies read so far precede those that are left.
use Rattle.std.proofs.Common.{◌≡◌, suc, length, map}
use Rattle.std.specs.Str.{chars}
use denote.Text.{Utf8}
use denote.Shadow.{shadow}
use Rattle.cookie_ron.specs.Views.{entry_view}
use Rattle.cookie_ron.specs.RonInput.{onto, cookies_at}
use Rattle.cookie_ron.proofs.reading.cookies_at.Given as goal

abbrev pub invariant-loop-behind : goal.invariant-loop-behind
invariant-loop-behind l =
    shadow (Utf8 l.rest)
    × (cookies_at (suc (length (chars l.input))) (chars l.input) ≡ onto (map entry_view l.entries.items) (cookies_at (suc (length (chars l.rest))) (chars l.rest)))

abbrev pub decreases-loop-behind : goal.decreases-loop-behind
decreases-loop-behind l = length (chars l.rest)
