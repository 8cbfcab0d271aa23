use Rattle.cookie_netscape.proofs.SecondsBack.{expiry_kept}
use Rattle.cookie_netscape.proofs.laws.keeps_expiry.Goals as goal

pub returns : goal.returns
returns c = expiry_kept c.moments_round_trip.ensures
