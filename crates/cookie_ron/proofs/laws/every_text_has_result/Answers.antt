use Rattle.cookie_ron.proofs.RonResults.{result_of}
use Rattle.cookie_ron.proofs.laws.every_text_has_result.Goals as goal

pub returns : goal.returns
returns c = result_of
