use Rattle.std.proofs.Common.{sym, subst}
use Rattle.cookie_laws.specs.Rows.{RowsInOrder, has_key, key_at, removed}
use Rattle.cookie_core.specs.SecureIndexes.{Indexes}
use Rattle.cookie_core.proofs.KeyedRows.{indexes_kept}
use Rattle.cookie_core.proofs.cookie_store.CookieStore.remove.Goals as goal

pub invariant_of-self : goal.invariant_of-self
invariant_of-self c =
    let index = c.self.inside.secure in
    let rows = c.self.inside.rows.rows in
    let key = key_at c.args.domain.now c.args.path.now c.args.name.now in
    subst (λ (kept : RowsInOrder). Indexes index kept.rows) (sym c.remove.ensures.removed)
    (indexes_kept index rows (removed (has_key key) rows) (λ test. c.preserved_by_calls.ensures.removed test key rows) c.self.invariant)
