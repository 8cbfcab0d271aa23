use Rattle.cookie_durable.proofs.LoadedRows.{names_key}
use Rattle.cookie_durable.proofs.durable_store.DurableStore.names_to_write.Goals as goal

pub returns-clause-key : goal.returns-clause-key
returns-clause-key g c =
    names_key c.in_ok-names.names _ c.args.cookie.now _ _ _ c.cookie.view_is c.in_ok-names.ensures c.as_str.ensures c.as_str-2.ensures c.name.ensures
