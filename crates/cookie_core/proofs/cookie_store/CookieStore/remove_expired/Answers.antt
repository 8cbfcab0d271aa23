use Rattle.std.proofs.Common.{sym, subst}
use Rattle.cookie_words.specs.Moments.{moment_of}
use Rattle.cookie_laws.specs.Rows.{RowsInOrder, is_unexpired}
use Rattle.cookie_core.specs.SecureIndexes.{Indexes}
use Rattle.cookie_core.proofs.KeyedRows.{indexes_filtered}
use Rattle.cookie_core.proofs.cookie_store.CookieStore.remove_expired.Goals as goal

pub invariant_of-self : goal.invariant_of-self
invariant_of-self c =
    let index = c.self.inside.secure in
    subst (λ (kept : RowsInOrder). Indexes index kept.rows) (sym c.remove_expired.ensures.rows)
    (indexes_filtered index (is_unexpired (moment_of c.args.now)) c.self.inside.rows.rows c.self.invariant)
