use Rattle.cookie_laws.proofs.UnexpiredRows.{given-unexpired, created-unexpired}
use Rattle.cookie_laws.proofs.given_without_expired.Goals as goal

pub returns : goal.returns
returns c = record { given = given-unexpired; has_creation_order = created-unexpired }
