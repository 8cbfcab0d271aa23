use Rattle.cookie_psl.proofs.TreeRules.{rules_of_empty}
use Rattle.cookie_psl.proofs.tree.new.Goals as goal

pub returns : goal.returns
returns c = rules_of_empty c.new.result c.new.ensures.empty
