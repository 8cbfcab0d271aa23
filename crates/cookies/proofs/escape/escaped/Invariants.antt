use Rattle.std.proofs.Common.{◌≡◌, flat_map, string_bytes}
use Rattle.cookies.specs.Escapes.{escaped_char}
use Rattle.cookies.proofs.escape.escaped.Given as goal

abbrev pub invariant-loop-c : goal.invariant-loop-c
invariant-loop-c l = string_bytes l.out ≡ flat_map escaped_char l.yielded
