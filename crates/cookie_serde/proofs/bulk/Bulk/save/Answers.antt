use Rattle.std.proofs.Common.{ap}
use Rattle.cookie_laws.specs.Contents.{Contents}
use Rattle.cookie_serde.proofs.bulk.Bulk.save.Goals as goal

pub returns-clause-stopped : goal.returns-clause-stopped
returns-clause-stopped g c =
    rw (← ap (λ (s : Contents). s.rows) c.as_store.ensures) c.save_rows.ensures.stopped
