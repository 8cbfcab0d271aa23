use Rattle.std.proofs.Common.{◌∙◌, sym, ap}
use Rattle.std.specs.Prelude.{option_map}
use Rattle.std.specs.Map.{values_of, set_value}
use Rattle.ordered_map.specs.Entries.{entries}
use Rattle.cookie_rows.specs.GroupChanges.{row_named}
use Rattle.cookie_rows.specs.Items.{Item, rows_of}
use Rattle.cookie_rows.proofs.Named.{at_text, row_found, named_set, put_set}
use Rattle.cookie_rows.proofs.Results.{known_some}
use Rattle.cookie_rows.proofs.name_table.replace_in.Goals as goal

pub returns-in-Some-clause-put : goal.returns-in-Some-clause-put
returns-in-Some-clause-put c number =
    let es = entries c.args.rows.now in
    ap values_of ((known_some c.get_mut.result c.in-Some.is (c.get_mut.follows.holds c.set.new.self)).written ∙ ap (set_value (at_text c.name.result.now) es) c.set.ensures)
    ∙ put_set c.name.result.now c.args.cookie number (sym c.name.ensures) c.in-Some.row.now es c.requires.named c.in-Some.ensures.value

pub returns-in-Some-clause-named : goal.returns-in-Some-clause-named
returns-in-Some-clause-named c =
    let es = entries c.args.rows.now in
    rw ((known_some c.get_mut.result c.in-Some.is (c.get_mut.follows.holds c.set.new.self)).written ∙ ap (set_value (at_text c.name.result.now) es) c.set.ensures)
    (named_set c.name.result.now c.args.cookie 0 (sym c.name.ensures) c.in-Some.row.now es c.requires.named)

pub returns-in-None-clause-put : goal.returns-in-None-clause-put
returns-in-None-clause-put c number =
    let es = entries c.args.rows.now in
    absurd (c.requires.stored
    (ap (λ t. row_named t (rows_of (values_of es))) (sym c.name.ensures) ∙ sym (row_found c.name.result.now es c.requires.named)
    ∙ ap (option_map (λ (x : Item). x.row)) (sym c.in-None.ensures.value)))
