use Rattle.std.proofs.Common.{◌∙◌, ap, map}
use Rattle.ordered_map.specs.Entries.{entries, in_order}
use Rattle.cookie_laws.specs.Rows.{RowsInOrder}
use Rattle.cookie_rows.specs.Items.{joined, rows_of}
use Rattle.cookie_rows.specs.Stored.{all_stored}
use Rattle.cookie_rows.proofs.Joined.{joined_is}
use Rattle.cookie_rows.proofs.rows.Rows.iter.Goals as goal

pub returns : goal.returns
returns c =
    c.new.ensures ∙ ap (λ ds. rows_of (joined (map in_order (all_stored ds)))) c.values.ensures
    ∙ joined_is (entries c.self.inside.groups) ∙ ap (λ (k : RowsInOrder). k.rows) c.self.view_is
