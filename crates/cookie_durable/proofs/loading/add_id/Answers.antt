use Rattle.std.proofs.Common.{rules}
use Rattle.cookie_laws.specs.Rows.{key_of}
use Rattle.cookie_durable.proofs.LoadedRows.{id_added, names_key}
use Rattle.cookie_durable.proofs.loading.add_id.Goals as goal

pub returns-clause-ids : goal.returns-clause-ids
returns-clause-ids c =
    id_added c.in_ok-names.names (key_of c.args.cookie.now) c.args.ids.now.entries _ c.args.id _
    (names_key c.in_ok-names.names _ c.args.cookie.now _ _ _ c.cookie.view_is c.in_ok-names.ensures c.as_str.ensures c.as_str-2.ensures c.name.ensures)
    c.in-Ok.ensures.updates.1 c.in-Ok.ensures.updates.3 (search rules)
