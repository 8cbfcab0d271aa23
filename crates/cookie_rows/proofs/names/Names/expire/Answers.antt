use Rattle.std.proofs.Common.{◌∙◌, ap, refl}
use Rattle.cookie_rows.specs.Items.{expire_item}
use Rattle.cookie_rows.proofs.StoredOrder.{rows_in_order, shown_rows}
use Rattle.cookie_rows.proofs.names.Names.expire.Goals as goal

pub returns : goal.returns
returns c =
    let rows = c.self.inside.rows in
    rows_in_order c.expire_row.new.rows ∙ c.expire_row.ensures.expired_row ∙ ap (expire_item c.args.name.now) (shown_rows rows rows c.args.self.now refl c.self.view_is)
