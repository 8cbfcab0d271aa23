use Rattle.std.proofs.Common.{◌∙◌, ap, length, sym}
use Rattle.std.specs.Vec.{vec_len}
use Rattle.std.proofs.lemmas.List.{length-map}
use Rattle.ordered_map.specs.Entries.{entries}
use Rattle.cookie_rows.specs.declared.names.NameMap.TheVariants as Rows
use Rattle.ordered_map.proofs.ByPlace.{length_in_order}
use Rattle.cookie_rows.proofs.StoredOrder.{shown_rows}
use Rattle.cookie_rows.proofs.names.Names.len.Goals as goal

pub returns-in-List-clause-in_order : goal.returns-in-List-clause-in_order
returns-in-List-clause-in_order c =
    c.len.ensures ∙ ap vec_len c.deref.ensures ∙ c.in-List.rows.value.ok.0
    ∙ ap length (shown_rows c.self.inside.rows (Rows.List c.in-List.rows) c.args.self.now c.in-List.is c.self.view_is)

pub returns-in-List-clause-stored : goal.returns-in-List-clause-stored
returns-in-List-clause-stored c = returns-in-List-clause-in_order c ∙ length_in_order c.args.self.now

pub returns-in-Table-clause-in_order : goal.returns-in-Table-clause-in_order
returns-in-Table-clause-in_order c =
    c.len-in-Table.ensures.len ∙ ap (λ m. length (entries m)) c.deref-in-Table.ensures
    ∙ sym (length-map (entries c.in-Table.rows.value) (λ e. e.1))
    ∙ ap length (shown_rows c.self.inside.rows (Rows.Table c.in-Table.rows) c.args.self.now c.in-Table.is c.self.view_is)

pub returns-in-Table-clause-stored : goal.returns-in-Table-clause-stored
returns-in-Table-clause-stored c = returns-in-Table-clause-in_order c ∙ length_in_order c.args.self.now
