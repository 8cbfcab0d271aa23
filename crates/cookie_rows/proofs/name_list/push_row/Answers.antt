use Rattle.std.proofs.Common.{◌∙◌, sym}
use Rattle.cookie_rows.proofs.NamedItems.{differ_last}
use Rattle.cookie_rows.proofs.StoredThenEvicted.{put_last}
use Rattle.cookie_rows.proofs.name_list.push_row.Goals as goal

pub returns-clause-added : goal.returns-clause-added
returns-clause-added c =
    c.in_ok-push.ensures.items ∙ sym (put_last c.args.row.row c.args.row.number c.args.rows.now.items c.requires.new)

pub returns-clause-differ : goal.returns-clause-differ
returns-clause-differ c =
    rw c.in_ok-push.ensures.items (differ_last c.args.rows.now.items c.args.row c.requires.new c.requires.differ)
