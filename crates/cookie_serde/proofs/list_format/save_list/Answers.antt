use Rattle.std.proofs.Common.{filter}
use Rattle.cookie_serde.specs.ListFormats.{SerializesTo}
use Rattle.cookie_serde.specs.Selections.{is_selected}
use Rattle.cookie_serde.proofs.ListedRows.{list_begun, list_written}
use Rattle.cookie_serde.proofs.list_format.save_list.Goals as goal

pub returns-clause-whole : goal.returns-clause-whole
returns-clause-whole g c =
    let rows = filter (is_selected c.args.which) c.args.store.now.rows in
    let said = rw c.in_ok-text.was at c.list_text.ensures in
    list_written (SerializesTo c.args.format) rows c.in_ok-text.text said c.write_text.result _ _ c.write_text.ensures.whole

pub returns-clause-stopped : goal.returns-clause-stopped
returns-clause-stopped g c =
    let rows = filter (is_selected c.args.which) c.args.store.now.rows in
    let said = rw c.in_ok-text.was at c.list_text.ensures in
    list_begun (SerializesTo c.args.format) rows c.in_ok-text.text said c.write_text.result _ _ c.write_text.ensures.stopped
