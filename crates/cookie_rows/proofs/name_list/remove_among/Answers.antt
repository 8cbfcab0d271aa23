use Rattle.std.proofs.Common.{◌≡◌, ◌∙◌, sym, ap, position, Some, None}
use Rattle.cookie_rows.specs.Items.{Item, is_item_named}
use Rattle.cookie_rows.proofs.NamedItems.{differ_removed, no_row, row_at}
use Rattle.cookie_rows.proofs.Positions.{none_removed, removed_there}
use Rattle.cookie_rows.proofs.name_list.remove_among.Goals as goal

pub returns-in-Some-clause-value : goal.returns-in-Some-clause-value
returns-in-Some-clause-value c =
    let items = c.args.rows.now.items in
    let found : position (is_item_named c.args.name.now) items ≡ Some c.in-Some.at = cc in
    ap Some (c.into_cookie.ensures ∙ ap (λ (x : Item). x.row) c.remove.ensures.value) ∙ sym (row_at c.args.name.now items c.in-Some.at _ found)

pub returns-in-Some-clause-removed : goal.returns-in-Some-clause-removed
returns-in-Some-clause-removed c =
    let items = c.args.rows.now.items in
    let found : position (is_item_named c.args.name.now) items ≡ Some c.in-Some.at = cc in
    c.remove.ensures.items ∙ removed_there (is_item_named c.args.name.now) items c.in-Some.at found

pub returns-in-Some-clause-differ : goal.returns-in-Some-clause-differ
returns-in-Some-clause-differ c =
    rw (returns-in-Some-clause-removed c) (differ_removed c.args.name.now c.args.rows.now.items c.requires)

pub returns-in-None-clause-value : goal.returns-in-None-clause-value
returns-in-None-clause-value c =
    let items = c.args.rows.now.items in
    let none : position (is_item_named c.args.name.now) items ≡ None = cc in
    sym (no_row c.args.name.now items none)

pub returns-in-None-clause-removed : goal.returns-in-None-clause-removed
returns-in-None-clause-removed c =
    let items = c.args.rows.now.items in
    let none : position (is_item_named c.args.name.now) items ≡ None = cc in
    sym (none_removed (is_item_named c.args.name.now) items none)
