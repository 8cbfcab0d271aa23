use Rattle.std.proofs.Common.{◌≡◌, map}
use Rattle.cookie_raw.specs.CookieDate.{parts_of}
use Rattle.cookie_raw.proofs.date.read_date.Given as goal

abbrev pub invariant-loop-token : goal.invariant-loop-token
invariant-loop-token l = l.found ≡ parts_of (map (λ x. x.now) l.yielded)
