use Rattle.cookie_serde.proofs.SavedLines.{filter-all}
use Rattle.cookie_serde.proofs.json.save_incl_expired_and_nonpersistent.Goals as goal

pub returns-clause-whole : goal.returns-clause-whole
returns-clause-whole g c = rw (← filter-all c.args.store.now.rows) c.save_list.ensures.whole

pub returns-clause-stopped : goal.returns-clause-stopped
returns-clause-stopped g c = rw (← filter-all c.args.store.now.rows) c.save_list.ensures.stopped
