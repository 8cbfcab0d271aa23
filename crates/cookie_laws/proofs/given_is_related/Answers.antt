use Rattle.cookie_laws.proofs.RelatedCalls.{given-related}
use Rattle.cookie_laws.proofs.given_is_related.Goals as goal

pub returns : goal.returns
returns c = given-related
