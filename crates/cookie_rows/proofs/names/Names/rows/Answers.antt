use Rattle.std.proofs.Common.{◌∙◌, ap}
use Rattle.std.specs.Map.{values_of}
use Rattle.ordered_map.specs.Entries.{entries}
use Rattle.cookie_rows.specs.declared.names.NameMap.TheVariants as Rows
use Rattle.cookie_rows.proofs.StoredOrder.{shown_rows}
use Rattle.cookie_rows.proofs.names.Names.rows.Goals as goal

pub returns-in-List : goal.returns-in-List
returns-in-List c =
    c.of_list-in-List.ensures ∙ c.deref.ensures.value ∙ ap (λ v. v.items) c.as_ref.ensures
    ∙ shown_rows c.self.inside.rows (Rows.List c.in-List.rows) c.args.self.now c.in-List.is c.self.view_is

pub returns-in-Table : goal.returns-in-Table
returns-in-Table c =
    c.of_table.ensures ∙ c.values.ensures ∙ ap (λ m. values_of (entries m)) c.deref-in-Table.ensures
    ∙ shown_rows c.self.inside.rows (Rows.Table c.in-Table.rows) c.args.self.now c.in-Table.is c.self.view_is
