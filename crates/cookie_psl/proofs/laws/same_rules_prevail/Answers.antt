use Rattle.cookie_psl.proofs.Prevailing.{same_prevailing}
use Rattle.cookie_psl.proofs.laws.same_rules_prevail.Goals as goal

pub returns : goal.returns
returns c = same_prevailing
