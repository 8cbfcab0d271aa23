use Rattle.std.proofs.Common.{◌≡◌, ◌∙◌, sym, ap, set, position, Some, None}
use Rattle.cookie_parts.specs.Cookie.{expired_row}
use Rattle.cookie_rows.specs.Items.{Item, is_item_named}
use Rattle.cookie_rows.proofs.NamedItems.{names_expired}
use Rattle.cookie_rows.proofs.Positions.{changed_there, none_changed}
use Rattle.cookie_rows.proofs.name_list.expire_among.Goals as goal

pub returns-in-Some-clause-expired_row : goal.returns-in-Some-clause-expired_row
returns-in-Some-clause-expired_row c =
    let items = c.args.rows.now.items in
    let found : position (is_item_named c.args.name.now) items ≡ Some c.in-Some.at = cc in
    ap (set items c.in-Some.at) (c.expire.ensures ∙ ap (λ (x : Item). record x { row = expired_row x.row }) c.index_mut.ensures.value)
    ∙ changed_there (is_item_named c.args.name.now) (λ x. record x { row = expired_row x.row }) items c.in-Some.at _ found

pub returns-in-Some-clause-names : goal.returns-in-Some-clause-names
returns-in-Some-clause-names c = rw (returns-in-Some-clause-expired_row c) (names_expired c.args.name.now c.args.rows.now.items)

pub returns-in-None-clause-expired_row : goal.returns-in-None-clause-expired_row
returns-in-None-clause-expired_row c =
    let items = c.args.rows.now.items in
    let none : position (is_item_named c.args.name.now) items ≡ None = cc in
    sym (none_changed (is_item_named c.args.name.now) (λ x. record x { row = expired_row x.row }) items none)
