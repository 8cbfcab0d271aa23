-- The characters read so far precede those that are left.
use Rattle.std.proofs.Common.{◌≡◌, suc, length, string_bytes}
use Rattle.std.specs.Str.{chars}
use denote.Text.{Utf8}
use denote.Shadow.{shadow}
use Rattle.cookie_ron.specs.RonInput.{onto, chars_at, text_at}
use Rattle.cookie_ron.proofs.texts.text_at.Given as goal

abbrev pub invariant-loop-c : goal.invariant-loop-c
invariant-loop-c l =
    shadow (Utf8 l.rest) × (text_at (chars l.input) ≡ onto (string_bytes l.text) (chars_at (suc (length (chars l.rest))) (chars l.rest)))

abbrev pub decreases-loop-c : goal.decreases-loop-c
decreases-loop-c l = length (chars l.rest)
