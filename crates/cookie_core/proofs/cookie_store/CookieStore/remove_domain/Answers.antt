use Rattle.std.proofs.Common.{sym, subst}
use Rattle.cookie_laws.specs.Rows.{RowsInOrder}
use Rattle.cookie_rows.specs.Retained.{has_other_domain}
use Rattle.cookie_core.specs.SecureIndexes.{Indexes}
use Rattle.cookie_core.proofs.KeyedRows.{indexes_filtered}
use Rattle.cookie_core.proofs.cookie_store.CookieStore.remove_domain.Goals as goal

pub invariant_of-self : goal.invariant_of-self
invariant_of-self c =
    let index = c.self.inside.secure in
    subst (λ (kept : RowsInOrder). Indexes index kept.rows) (sym c.remove_domain.ensures.rows)
    (indexes_filtered index (has_other_domain c.args.domain.now) c.self.inside.rows.rows c.self.invariant)
