use Rattle.cookie_laws.proofs.RebuiltRows.{rebuilt}
use Rattle.cookie_laws.proofs.rebuilt.Goals as goal

pub returns : goal.returns
returns c = rebuilt
