use Rattle.std.proofs.Common.{None}
use Rattle.cookie_durable.proofs.IdsByKey.{sets_id}
use Rattle.cookie_durable.proofs.changes.delete_for.Goals as goal

pub returns-in-Some-clause-ids : goal.returns-in-Some-clause-ids
returns-in-Some-clause-ids c = sets_id c.args.names.now None _ _ c.swap_remove.ensures.updates.1 c.swap_remove.ensures.updates.3
