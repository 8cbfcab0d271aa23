use Rattle.std.proofs.Common.{◌∙◌, ap, sym}
use Rattle.ordered_map.specs.Entries.{in_order}
use Rattle.cookie_rows.proofs.StoredOrder.{rows_in_order}
use Rattle.cookie_rows.proofs.names.NamesRehash.rehashed.Goals as goal

pub returns : goal.returns
returns c = rows_in_order c.in_ok-rehashed.field-0 ∙ c.in_ok-rehashed.ensures.items ∙ sym (rows_in_order c.self.inside.rows) ∙ ap in_order c.self.view_is
