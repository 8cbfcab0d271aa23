use Rattle.std.proofs.Common.{filter, string_bytes}
use Rattle.cookie_serde.specs.Selections.{is_selected}
use Rattle.cookie_serde.proofs.RepresentableRows.{file_begun}
use Rattle.cookie_serde.proofs.netscape.save_among.Goals as goal

pub returns-clause-stopped : goal.returns-clause-stopped
returns-clause-stopped g c =
    let (representable, text) = c.in_ok-text.ensures in
    file_begun (filter (is_selected c.args.which) c.args.store.now.rows) (string_bytes c.in_ok-text.text) representable text
    c.write_file.result _ _ c.write_file.ensures.stopped
