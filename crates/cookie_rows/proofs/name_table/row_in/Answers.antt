use Rattle.std.proofs.Common.{◌∙◌, ap, Some}
use Rattle.std.specs.Prelude.{option_map}
use Rattle.ordered_map.specs.Entries.{entries}
use Rattle.cookie_rows.specs.Items.{Item}
use Rattle.cookie_rows.proofs.Named.{row_found}
use Rattle.cookie_rows.proofs.name_table.row_in.Goals as goal

pub returns-in-Some : goal.returns-in-Some
returns-in-Some c =
    ap Some c.cookie.ensures
    ∙ ap (option_map (λ (x : Item). x.row)) c.in-Some.ensures
    ∙ row_found c.args.name.now (entries c.args.rows.now) c.requires.named

pub returns-in-None : goal.returns-in-None
returns-in-None c =
    ap (option_map (λ (x : Item). x.row)) c.in-None.ensures
    ∙ row_found c.args.name.now (entries c.args.rows.now) c.requires.named
