use Rattle.std.proofs.Common.{◌∙◌, ap, Some}
use Rattle.std.specs.Prelude.{option_map}
use Rattle.std.specs.Map.{values_of}
use Rattle.ordered_map.specs.Entries.{entries}
use Rattle.cookie_rows.specs.Items.{Item}
use Rattle.cookie_rows.proofs.Named.{row_found, named_removed, remove_values}
use Rattle.cookie_rows.proofs.name_table.remove_in.Goals as goal

pub returns-in-Some-clause-value : goal.returns-in-Some-clause-value
returns-in-Some-clause-value c =
    ap Some c.into_cookie.ensures ∙ ap (option_map (λ (x : Item). x.row)) c.in-Some.ensures.value ∙ row_found c.args.name.now (entries c.args.rows.now) c.requires.named

pub returns-in-Some-clause-removed : goal.returns-in-Some-clause-removed
returns-in-Some-clause-removed c =
    ap values_of c.remove.ensures.removed ∙ remove_values c.args.name.now (entries c.args.rows.now) c.requires.named

pub returns-in-Some-clause-named : goal.returns-in-Some-clause-named
returns-in-Some-clause-named c =
    rw c.remove.ensures.removed (named_removed c.args.name.now (entries c.args.rows.now) c.requires.named)

pub returns-in-None-clause-value : goal.returns-in-None-clause-value
returns-in-None-clause-value c =
    ap (option_map (λ (x : Item). x.row)) c.in-None.ensures.value ∙ row_found c.args.name.now (entries c.args.rows.now) c.requires.named

pub returns-in-None-clause-removed : goal.returns-in-None-clause-removed
returns-in-None-clause-removed c =
    ap values_of c.remove.ensures.removed ∙ remove_values c.args.name.now (entries c.args.rows.now) c.requires.named

pub returns-in-None-clause-named : goal.returns-in-None-clause-named
returns-in-None-clause-named c =
    rw c.remove.ensures.removed (named_removed c.args.name.now (entries c.args.rows.now) c.requires.named)
