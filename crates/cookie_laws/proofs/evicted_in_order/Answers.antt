use Rattle.cookie_laws.proofs.DomainEvictionOrder.{expired_evicted_first, made_first}
use Rattle.cookie_laws.proofs.evicted_in_order.Goals as goal

pub returns : goal.returns
returns c = record { expired_row = expired_evicted_first; older_first = made_first }
