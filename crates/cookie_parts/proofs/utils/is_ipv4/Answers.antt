use Rattle.std.proofs.Common.{◌∙◌}
use Rattle.cookie_parts.proofs.Ipv4.{is_ok-parse}
use Rattle.cookie_parts.proofs.utils.is_ipv4.Goals as goal

pub returns : goal.returns
returns c = c.is_ok.ensures.value ∙ is_ok-parse c.args.host.now _ c.parse.ensures.value
