use Rattle.cookie_forms.proofs.TreesBack.{saved_back}
use Rattle.cookie_forms.proofs.laws.reads_back.Goals as goal

pub returns : goal.returns
returns c = saved_back
