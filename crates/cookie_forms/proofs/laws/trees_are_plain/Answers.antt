use Rattle.cookie_forms.proofs.TreesPlain.{saved_no_float, saved_nests}
use Rattle.cookie_forms.proofs.laws.trees_are_plain.Goals as goal

pub returns-clause-no_float : goal.returns-clause-no_float
returns-clause-no_float c = saved_no_float

pub returns-clause-nests : goal.returns-clause-nests
returns-clause-nests c = saved_nests
