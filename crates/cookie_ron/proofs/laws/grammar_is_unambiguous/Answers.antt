use Rattle.cookie_ron.proofs.ListFronts.{one_list}
use Rattle.cookie_ron.proofs.laws.grammar_is_unambiguous.Goals as goal

pub returns : goal.returns
returns c = one_list
