use Rattle.cookie_raw.proofs.ReadsBack.{plain_reads_back}
use Rattle.cookie_raw.proofs.laws.reads_back.Goals as goal

pub returns : goal.returns
returns c = plain_reads_back
