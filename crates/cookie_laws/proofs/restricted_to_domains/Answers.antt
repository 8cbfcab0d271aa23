use Rattle.cookie_laws.proofs.RestrictedStores.{full-restricted, given-restricted, header-restricted, row-restricted, secure_last-apart, secure_last-restricted, step-apart, step-restricted}
use Rattle.cookie_laws.proofs.restricted_to_domains.Goals as goal

pub returns : goal.returns
returns c = record {
  row = row-restricted;
  full = full-restricted;
  call = step-restricted;
  other_call = step-apart;
  secure_last = secure_last-restricted;
  other_secure_last = secure_last-apart;
  given = given-restricted;
  header = header-restricted;
}
