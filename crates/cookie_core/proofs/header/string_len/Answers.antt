use Rattle.std.proofs.Common.{ap, arith, length}
use Rattle.cookie_laws.specs.Header.{later_pair}
use Rattle.cookie_core.proofs.CookieStrings.{fits}
use Rattle.cookie_core.proofs.header.string_len.Goals as goal

pub returns-in_err-len-2 : goal.returns-in_err-len-2
returns-in_err-len-2 c =
    let more = fits (λ x. later_pair x.now) c.args.others.now c.loop-cookie.cookie-index _ _ c.loop-cookie-test.true
    (ap (λ x. length (later_pair x.now)) c.cookie-item.is) in
    rw c.from_residual-in_err-len-2.ensures (omega (arith, more, c.loop-cookie.invariant, c.in_err-len-2.ensures))
