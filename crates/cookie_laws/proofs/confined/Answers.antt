use Rattle.cookie_laws.proofs.ConfinedRows.{given-confined, given-confined_as_put}
use Rattle.cookie_laws.proofs.confined.Goals as goal

pub returns : goal.returns
returns c = record { given = given-confined; as_put = given-confined_as_put }
