-- The cookies of the rows that were passed.
use Rattle.std.proofs.Common.{◌≡◌, map, take}
use Rattle.cookie_rows.proofs.header_order.cookies_of.Given as goal

abbrev pub invariant-loop-item : goal.invariant-loop-item
invariant-loop-item l = map (λ c. c.now) l.cookies.items ≡ map (λ r. r.now.row) (take l.item-index l.items)
