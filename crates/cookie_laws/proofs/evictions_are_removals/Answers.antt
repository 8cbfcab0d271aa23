use Rattle.cookie_laws.proofs.SecureLastKeys.{accepts_secure_last, evicts_no_more, secure_stays}
use Rattle.cookie_laws.proofs.evictions_are_removals.Goals as goal

pub returns : goal.returns
returns c = record { store = accepts_secure_last; evicts_no_more = evicts_no_more; secure_stays = secure_stays }
