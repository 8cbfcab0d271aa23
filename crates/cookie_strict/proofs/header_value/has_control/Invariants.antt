-- Whether one of the bytes so far is a control character.
use Rattle.std.proofs.Common.{◌≡◌, take}
use Rattle.cookie_strict.specs.HeaderValue.{has_control}
use Rattle.cookie_strict.proofs.header_value.has_control.Given as goal

abbrev pub invariant-loop-byte : goal.invariant-loop-byte
invariant-loop-byte l = l.found ≡ has_control (take l.byte-index l.byte-items)
