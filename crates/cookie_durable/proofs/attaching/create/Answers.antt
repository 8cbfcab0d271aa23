use Rattle.std.proofs.Common.{arith}
use Rattle.cookie_durable.proofs.attaching.create.Goals as goal

pub returns-in-Ok-clause-empty : goal.returns-in-Ok-clause-empty
returns-in-Ok-clause-empty g c clean = c.in-Ok.ensures.empty clean 0 (omega arith)
