use Rattle.cookie_forms.proofs.TreesPlain.{list_no_float, list_nests}
use Rattle.cookie_forms.proofs.laws.list_trees_are_plain.Goals as goal

pub returns-clause-no_float : goal.returns-clause-no_float
returns-clause-no_float c = list_no_float

pub returns-clause-nests : goal.returns-clause-nests
returns-clause-nests c = list_nests
