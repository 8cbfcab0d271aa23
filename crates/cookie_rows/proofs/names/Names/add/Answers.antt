use Rattle.std.proofs.Common.{◌≡◌, ◌∙◌, ap}
use Rattle.cookie_rows.specs.GroupChanges.{row_named}
use Rattle.cookie_rows.specs.Items.{put_item, rows_of}
use Rattle.cookie_rows.proofs.Results.{on_err_map, on_ok_map}
use Rattle.cookie_rows.proofs.StoredOrder.{rows_in_order, shown_rows}
use Rattle.cookie_rows.proofs.names.Names.add.Goals as goal

pub with_row-rows-requires-clause-new : goal.with_row-rows-requires-clause-new
with_row-rows-requires-clause-new c =
    let same : c.self.inside.rows ≡ c.replace-rows.result = cc in
    ap (λ items. row_named c.args.row.row.raw.name (rows_of items)) (shown_rows c.self.inside.rows c.replace-rows.result c.args.self.now same c.self.view_is) ∙ c.requires.new

pub returns-clause-added : goal.returns-clause-added
returns-clause-added c =
    let same : c.self.inside.rows ≡ c.replace-rows.result = cc in
    on_ok_map c.with_row-rows.result.1
    (λ is. rows_in_order c.with_row-rows.result.0 ∙ is ∙ ap (put_item c.args.row.row c.args.row.number) (shown_rows c.self.inside.rows c.replace-rows.result c.args.self.now same c.self.view_is))
    c.with_row-rows.ensures.added

pub returns-clause-unchanged : goal.returns-clause-unchanged
returns-clause-unchanged c =
    let same : c.self.inside.rows ≡ c.replace-rows.result = cc in
    on_err_map c.with_row-rows.result.1
    (λ is. rows_in_order c.with_row-rows.result.0 ∙ is ∙ shown_rows c.self.inside.rows c.replace-rows.result c.args.self.now same c.self.view_is)
    c.with_row-rows.ensures.unchanged
