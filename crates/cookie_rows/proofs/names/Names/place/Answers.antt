use Rattle.std.proofs.Common.{map}
use Rattle.cookie_rows.proofs.StoredAt.{none_there}
use Rattle.cookie_rows.proofs.names.Names.place.Goals as goal

pub returns-in-None : goal.returns-in-None
returns-in-None c = none_there (map (λ p. p.0) c.args.self.now) c.args.position 0 c.in-None.ensures.place
