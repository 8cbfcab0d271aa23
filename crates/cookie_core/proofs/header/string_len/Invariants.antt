-- The length of the pairs that were passed.
use Rattle.std.proofs.Common.{◌≡◌, ◌+◌, flat_map, length, take}
use Rattle.cookie_laws.specs.Header.{later_pair, pair_text}
use Rattle.cookie_core.proofs.header.string_len.Given as goal

abbrev pub invariant-loop-cookie : goal.invariant-loop-cookie
invariant-loop-cookie l =
    l.len ≡ length (pair_text l.fn.first) + length (flat_map (λ c. later_pair c.now) (take l.cookie-index l.others))
