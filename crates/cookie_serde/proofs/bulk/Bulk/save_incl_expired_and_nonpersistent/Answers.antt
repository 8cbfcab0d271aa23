use Rattle.std.proofs.Common.{ap, ◌∙◌}
use Rattle.cookie_laws.specs.Contents.{Contents}
use Rattle.cookie_serde.proofs.SavedLines.{filter-all}
use Rattle.cookie_serde.proofs.bulk.Bulk.save_incl_expired_and_nonpersistent.Goals as goal

pub returns-clause-whole : goal.returns-clause-whole
returns-clause-whole g c =
    rw (← filter-all _ ∙ ap (λ (s : Contents). s.rows) c.as_store.ensures) c.save_rows.ensures.whole

pub returns-clause-stopped : goal.returns-clause-stopped
returns-clause-stopped g c =
    rw (← filter-all _ ∙ ap (λ (s : Contents). s.rows) c.as_store.ensures) c.save_rows.ensures.stopped
