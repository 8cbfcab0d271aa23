-- A cookie with the domain is among those that are left, if there is one.
use Rattle.std.proofs.Common.{◌≡◌}
use Rattle.cookies.specs.Domains.{has_domain}
use Rattle.cookies.proofs.domain.has_domain.Given as goal

abbrev pub invariant-loop-cookie : goal.invariant-loop-cookie
invariant-loop-cookie l = record {
  left : has_domain l.domain l.cookie-iterator ≡ has_domain l.domain l.store.rows;
}
