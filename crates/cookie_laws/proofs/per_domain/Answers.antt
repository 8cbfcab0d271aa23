use Rattle.cookie_laws.proofs.CallsOfDomain.{same_domain_keys, same_domain_replies, same_domain_rows}
use Rattle.cookie_laws.proofs.per_domain.Goals as goal

pub returns : goal.returns
returns c = record { rows = same_domain_rows; creation_order = same_domain_keys; replies = same_domain_replies }
