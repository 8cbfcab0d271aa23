use Rattle.cookie_laws.proofs.ConfinedRows.{rows-accepted}
use Rattle.cookie_laws.proofs.accepted.Goals as goal

pub returns : goal.returns
returns c = rows-accepted
