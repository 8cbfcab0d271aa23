use Rattle.std.proofs.Common.{filter, sym, ◌∙◌}
use Rattle.cookie_serde.specs.Selections.{is_selected}
use Rattle.cookie_serde.proofs.RepresentableRows.{all_written}
use Rattle.cookie_serde.proofs.netscape.text_among.Goals as goal

pub returns : goal.returns
returns c =
    let rows = filter (is_selected c.args.which) c.args.store.now.rows in
    let all = sym c.are_representable.ensures ∙ c.if-not-are_representable.false in
    (all, all_written rows _ all c.in_ok-to_text_representable.ensures.text)
