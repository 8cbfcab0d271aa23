use Rattle.cookie_laws.specs.Rows.{has_key}
use Rattle.cookie_laws.proofs.AcceptedRows.{All-removed}
use Rattle.cookie_laws.proofs.RowsThatPass.{Passes, accepted-pass, accepted_secure_last-pass}
use Rattle.cookie_laws.proofs.preserved_by_calls.Goals as goal

pub returns : goal.returns
returns c = record {
  inserted = accepted-pass;
  inserted_secure_last = accepted_secure_last-pass;
  removed = λ test key. All-removed (Passes test) (has_key key);
}
