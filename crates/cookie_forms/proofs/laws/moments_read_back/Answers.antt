use Rattle.cookie_forms.proofs.MomentsBack.{moment_back}
use Rattle.cookie_forms.proofs.laws.moments_read_back.Goals as goal

pub returns : goal.returns
returns c = moment_back
