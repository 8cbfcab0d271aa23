use Rattle.cookie_laws.proofs.ReceivedCookies.{received-row_expired, received-ends, received-live, received-other_row}
use Rattle.cookie_laws.proofs.expires_one_row.Goals as goal

pub returns : goal.returns
returns c = record {
  was_unexpired = λ store cookie_result url now. received-live store url now cookie_result;
  store = λ store cookie_result url now. received-ends store url now cookie_result;
  row_expired = λ store cookie_result url now cookie row is ends. received-row_expired store url now cookie_result cookie is ends row;
  others = λ store cookie_result url now cookie key is ends. received-other_row store url now cookie_result cookie is ends key;
}
