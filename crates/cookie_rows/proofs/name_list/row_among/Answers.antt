use Rattle.std.proofs.Common.{◌∙◌, sym, ap, Some}
use Rattle.cookie_rows.specs.Items.{Item}
use Rattle.cookie_rows.proofs.NamedItems.{row_at, no_row}
use Rattle.cookie_rows.proofs.name_list.row_among.Goals as goal

pub returns-in-Some : goal.returns-in-Some
returns-in-Some c =
    ap Some (c.cookie.ensures ∙ ap (λ (x : Item). x.row) c.index-rows-at.is)
    ∙ sym (row_at c.args.name.now c.args.rows.now c.in-Some.at _ (sym c.in-Some.ensures.place))

pub returns-in-None : goal.returns-in-None
returns-in-None c = sym (no_row c.args.name.now c.args.rows.now (sym c.in-None.ensures.place))
