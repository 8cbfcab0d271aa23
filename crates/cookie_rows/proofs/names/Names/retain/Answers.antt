use Rattle.std.proofs.Common.{refl}
use Rattle.cookie_rows.proofs.StoredOrder.{rows_in_order, shown_rows}
use Rattle.cookie_rows.proofs.names.Names.retain.Goals as goal

pub returns : goal.returns
returns g c =
    let rows = c.self.inside.rows in
    let shown = shown_rows rows rows c.args.self.now refl c.self.view_is in
    rw (rows_in_order c.retain_rows.new.rows, ← shown) c.retain_rows.ensures.retained
