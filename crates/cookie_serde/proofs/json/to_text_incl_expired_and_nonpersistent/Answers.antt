use Rattle.cookie_serde.proofs.SavedLines.{filter-all}
use Rattle.cookie_serde.proofs.json.to_text_incl_expired_and_nonpersistent.Goals as goal

pub returns : goal.returns
returns c = rw (← filter-all c.args.store.now.rows) c.list_text.ensures
