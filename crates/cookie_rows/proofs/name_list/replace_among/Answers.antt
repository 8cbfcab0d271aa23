use Rattle.std.proofs.Common.{◌≡◌, ◌∙◌, ap, set, position, Some, None}
use Rattle.cookie_rows.specs.Items.{Item, is_item_named}
use Rattle.cookie_rows.proofs.NamedItems.{names_put, no_row, put_there}
use Rattle.cookie_rows.proofs.Positions.{passes}
use Rattle.cookie_rows.proofs.name_list.replace_among.Goals as goal

pub returns-in-Some-clause-put : goal.returns-in-Some-clause-put
returns-in-Some-clause-put c number =
    let items = c.args.rows.now.items in
    let found : position (is_item_named c.args.cookie.raw.name) items ≡ Some c.in-Some.at = cc in
    ap (set items c.in-Some.at) (c.set.ensures ∙ ap (λ (x : Item). record x { row = c.args.cookie }) c.index_mut.ensures.value)
    ∙ put_there c.args.cookie number items c.in-Some.at _ found

pub returns-in-Some-clause-names : goal.returns-in-Some-clause-names
returns-in-Some-clause-names c =
    let items = c.args.rows.now.items in
    let found : position (is_item_named c.args.cookie.raw.name) items ≡ Some c.in-Some.at = cc in
    rw (returns-in-Some-clause-put c 0) (names_put c.args.cookie 0 items (passes (is_item_named c.args.cookie.raw.name) items c.in-Some.at found))

pub returns-in-None-clause-put : goal.returns-in-None-clause-put
returns-in-None-clause-put c number =
    let items = c.args.rows.now.items in
    let none : position (is_item_named c.args.cookie.raw.name) items ≡ None = cc in
    absurd (c.requires.stored (no_row c.args.cookie.raw.name items none))
