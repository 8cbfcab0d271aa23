use Rattle.std.proofs.Common.{sym, ap, ◌∙◌}
use Rattle.cookie_parts.specs.Domain.{Suffix}
use Rattle.cookie_parts.specs.Hosts.{host_of}
use Rattle.cookie_parts.specs.Views.{domain_value}
use Rattle.cookie_parts.proofs.Hosts.{for_host-Decides}
use Rattle.cookie_parts.proofs.cookie_domain.CookieDomain.matches.Goals as goal

pub returns-in-Suffix-clause-meaning : goal.returns-in-Suffix-clause-meaning
returns-in-Suffix-clause-meaning c =
    for_host-Decides (domain_value c.args.self.now) (host_of c.args.url.now) c.as_str-in-Suffix.result.now c.in-Some.host.now c.covers.result
    (ap domain_value c.in-Suffix.is ∙ ap Suffix (sym c.as_str-in-Suffix.ensures.value))
    (sym c.in-Some.ensures) c.covers.ensures
