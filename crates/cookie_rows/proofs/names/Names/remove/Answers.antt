use Rattle.std.proofs.Common.{◌≡◌, ◌∙◌, ap}
use Rattle.cookie_rows.specs.GroupChanges.{row_named}
use Rattle.cookie_rows.specs.Items.{remove_item, rows_of}
use Rattle.cookie_rows.proofs.StoredOrder.{rows_in_order, shown_rows}
use Rattle.cookie_rows.proofs.names.Names.remove.Goals as goal

pub returns-clause-value : goal.returns-clause-value
returns-clause-value c =
    let same : c.self.inside.rows ≡ c.replace.result = cc in
    c.without_row-rows.ensures.value
    ∙ ap (λ items. row_named c.args.name.now (rows_of items)) (shown_rows c.self.inside.rows c.replace.result c.args.self.now same c.self.view_is)

pub returns-clause-removed : goal.returns-clause-removed
returns-clause-removed c =
    let same : c.self.inside.rows ≡ c.replace.result = cc in
    rows_in_order c.without_row-rows.result.0 ∙ c.without_row-rows.ensures.removed
    ∙ ap (remove_item c.args.name.now) (shown_rows c.self.inside.rows c.replace.result c.args.self.now same c.self.view_is)
