use Rattle.std.proofs.Common.{◌∙◌, ap, refl, sym}
use Rattle.cookie_rows.specs.GroupChanges.{row_named}
use Rattle.cookie_rows.specs.Items.{put_item, rows_of}
use Rattle.cookie_rows.proofs.StoredOrder.{rows_in_order, shown_rows}
use Rattle.cookie_rows.proofs.names.Names.replace.Goals as goal

pub replace_row-requires-clause-stored : goal.replace_row-requires-clause-stored
replace_row-requires-clause-stored c none =
    let rows = c.self.inside.rows in
    c.requires.stored (ap (λ items. row_named c.args.cookie.raw.name (rows_of items)) (sym (shown_rows rows rows c.args.self.now refl c.self.view_is)) ∙ none)

pub returns : goal.returns
returns c number =
    let rows = c.self.inside.rows in
    rows_in_order c.replace_row.new.rows ∙ c.replace_row.ensures.put number ∙ ap (put_item c.args.cookie number) (shown_rows rows rows c.args.self.now refl c.self.view_is)
