use Rattle.std.proofs.Common.{ap, arith, inl, length}
use Rattle.cookie_words.specs.Moments.{moment_of}
use Rattle.cookie_laws.specs.Rows.{RowsInOrder, is_unexpired}
use Rattle.cookie_rows.proofs.RowCounts.{fewer}
use Rattle.cookie_rows.proofs.rows.Rows.len_unexpired.Goals as goal

pub count-requires-clause-fits : goal.count-requires-clause-fits
count-requires-clause-fits c =
    let all = ap (λ (k : RowsInOrder). length k.rows) c.self.view_is in
    let unexpired = ap length c.iter_unexpired.ensures in
    inl (omega (arith, c.self.invariant.1, all, unexpired, fewer (is_unexpired (moment_of c.args.now)) c.args.self.now.rows))
