use Rattle.cookie_laws.proofs.ReceivedCookies.{received-guarded}
use Rattle.cookie_laws.proofs.guarded.Goals as goal

pub returns : goal.returns
returns c = λ store cookie_result url now. received-guarded store url now cookie_result
