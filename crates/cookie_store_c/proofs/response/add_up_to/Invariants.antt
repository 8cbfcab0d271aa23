-- The lengths so far and what is left of the total make the total.
use Rattle.std.proofs.Common.{◌≡◌, ◌+◌, sum, take}
use Rattle.cookie_store_c.proofs.response.add_up_to.Given as goal

abbrev pub invariant-loop-len : goal.invariant-loop-len
invariant-loop-len l = sum (take l.len-index l.lens) + l.rest ≡ l.total
