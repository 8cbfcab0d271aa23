use Rattle.cookie_laws.proofs.ReceivedCookies.{received-other_key}
use Rattle.cookie_laws.proofs.keeps_other_rows.Goals as goal

pub returns : goal.returns
returns c = λ store cookie_result url now. received-other_key store url now cookie_result
