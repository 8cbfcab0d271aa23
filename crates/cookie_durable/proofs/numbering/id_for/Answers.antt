use Rattle.std.proofs.Common.{rules}
use Rattle.cookie_durable.proofs.IdsByKey.{gives_next, sets_id}
use Rattle.cookie_durable.proofs.numbering.id_for.Goals as goal

pub returns-clause-id : goal.returns-clause-id
returns-clause-id c = gives_next _ c.args.next.now _ _ (search rules) (search rules) c.in_ok-id.ensures.next

pub returns-clause-ids : goal.returns-clause-ids
returns-clause-ids c =
    sets_id c.args.names _ c.args.ids.now.entries _ c.in_ok-insert.ensures.updates.1 c.in_ok-insert.ensures.updates.3
