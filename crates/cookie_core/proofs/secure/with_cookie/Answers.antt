use Rattle.std.proofs.Common.{◌∙◌, sym}
use Rattle.cookie_core.proofs.KeyedRows.{indexes_added, keyed_before, keyed_by}
use Rattle.cookie_core.proofs.secure.with_cookie.Goals as goal

pub returns-then-is_new_key : goal.returns-then-is_new_key
returns-then-is_new_key c =
    let keys = c.in_ok-index.index in
    let rows = c.args.rows.now.rows in
    indexes_added keys c.with_key.result c.args.cookie.now rows (keyed_by c.args.index keys rows c.in_ok-index.was c.requires) c.with_key.ensures

pub returns-else-is_new_key : goal.returns-else-is_new_key
returns-else-is_new_key c =
    let keys = c.in_ok-index.index in
    let rows = c.args.rows.now.rows in
    keyed_before keys c.args.cookie.now rows (keyed_by c.args.index keys rows c.in_ok-index.was c.requires) (sym c.is_new_key.ensures ∙ c.if-is_new_key.false)
