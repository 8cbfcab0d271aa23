use Rattle.cookie_forms.proofs.TreesBack.{list_back}
use Rattle.cookie_forms.proofs.laws.list_reads_back.Goals as goal

pub returns : goal.returns
returns c = list_back
