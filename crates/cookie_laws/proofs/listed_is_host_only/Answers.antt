use Rattle.cookie_laws.proofs.ReceivedCookies.{received-put}
use Rattle.cookie_laws.proofs.listed_is_host_only.Goals as goal

pub returns : goal.returns
returns c = λ store created url now. received-put store url now created
