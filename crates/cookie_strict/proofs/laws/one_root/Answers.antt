use Rattle.cookie_strict.proofs.RootsOfDomains.{root-covers}
use Rattle.cookie_strict.proofs.laws.one_root.Goals as goal

pub returns : goal.returns
returns c = root-covers
