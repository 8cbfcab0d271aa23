use Rattle.cookie_laws.proofs.HeaderOrder.{one_order}
use Rattle.cookie_laws.proofs.one_header_order.Goals as goal

pub returns : goal.returns
returns c = one_order
