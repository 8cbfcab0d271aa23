use Rattle.cookie_parts.proofs.Paths.{covers_path_decides}
use Rattle.cookie_parts.proofs.laws.path_match_is_tested.Goals as goal

pub returns : goal.returns
returns c = covers_path_decides
