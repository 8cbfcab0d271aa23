use Rattle.cookie_laws.proofs.LimitedRows.{inserted_rows, limited_rows}
use Rattle.cookie_laws.proofs.CreationKeys.{made_after, made_built}
use Rattle.cookie_laws.proofs.limited.Goals as goal

pub returns : goal.returns
returns c = record { rows = limited_rows; inserted = inserted_rows; has_creation_order = made_after; built = made_built }
