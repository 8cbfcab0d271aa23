use Rattle.std.proofs.Common.{arith}
use Rattle.cookie_parts.proofs.cookie.Cookie.from_raw_cookie.Goals as goal

pub returns-clause-early : goal.returns-clause-early
returns-clause-early c = grind (arith, c.if-is_out_of_reach.false, c.is_out_of_reach.ensures, c.domain_for.ensures.early, c.in_ok-domain.was)
