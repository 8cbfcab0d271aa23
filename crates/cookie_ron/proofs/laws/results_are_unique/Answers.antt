use Rattle.cookie_ron.proofs.OneResult.{one_result}
use Rattle.cookie_ron.proofs.laws.results_are_unique.Goals as goal

pub returns : goal.returns
returns c = one_result c.grammar_is_unambiguous.ensures
