use Rattle.std.proofs.Common.{◌≡◌, ◌∙◌, ap}
use Rattle.std.specs.Map.{values_of}
use Rattle.std.specs.Option.{option_copied}
use Rattle.ordered_map.specs.Entries.{entries}
use Rattle.cookie_rows.specs.GroupChanges.{row_named}
use Rattle.cookie_rows.specs.Items.{rows_of}
use Rattle.cookie_rows.specs.declared.names.NameMap.TheVariants as Rows
use Rattle.cookie_rows.proofs.StoredOrder.{shown_rows}
use Rattle.cookie_rows.proofs.names.Names.get.Goals as goal

pub returns-in-List : goal.returns-in-List
returns-in-List c =
    let found : option_copied c.row_among.result ≡ row_named c.args.name.now (rows_of c.in-List.rows.value.items) = cc in
    found ∙ ap (λ items. row_named c.args.name.now (rows_of items)) (shown_rows c.self.inside.rows (Rows.List c.in-List.rows) c.args.self.now c.in-List.is c.self.view_is)

pub returns-in-Table : goal.returns-in-Table
returns-in-Table c =
    let found : option_copied c.row_in.result ≡ row_named c.args.name.now (rows_of (values_of (entries c.in-Table.rows.value))) = cc in
    found ∙ ap (λ items. row_named c.args.name.now (rows_of items)) (shown_rows c.self.inside.rows (Rows.Table c.in-Table.rows) c.args.self.now c.in-Table.is c.self.view_is)
