-- The pairs that were passed are behind the text.
use Rattle.std.proofs.Common.{◌≡◌, ◌++◌, flat_map, string_bytes, take}
use Rattle.cookie_laws.specs.Header.{later_pair}
use Rattle.cookie_core.proofs.header.push_later.Given as goal

abbrev pub invariant-loop-cookie : goal.invariant-loop-cookie
invariant-loop-cookie l = string_bytes l.text ≡ string_bytes l.fn.text ++ flat_map (λ c. later_pair c.now) (take l.cookie-index l.cookies)
