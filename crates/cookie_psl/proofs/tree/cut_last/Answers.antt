use Rattle.cookie_psl.proofs.LabelsCut.{last_label, one_label}
use Rattle.cookie_psl.proofs.tree.cut_last.Goals as goal

pub returns-in-Some : goal.returns-in-Some
returns-in-Some c = let cut = c.in-Some.ensures.cases in last_label _ _ _ cut.0 cut.1 cut.2.0 cut.2.1 cut.3 cut.4

pub returns-in-None : goal.returns-in-None
returns-in-None c = one_label _ c.in-None.ensures.cases
