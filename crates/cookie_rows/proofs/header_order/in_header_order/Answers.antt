use Rattle.std.proofs.Common.{◌∙◌, None, ap, map, sym, subst}
use Rattle.std.specs.List.{flat_map}
use Rattle.cookie_words.specs.Moments.{moment_of}
use Rattle.cookie_laws.specs.Contents.{contents_of}
use Rattle.cookie_laws.specs.Given.{given}
use Rattle.cookie_laws.specs.Header.{InHeaderOrder}
use Rattle.cookie_lookup.specs.Groups.{AreGroups, flat}
use Rattle.cookie_lookup.specs.Positions.{groups_by_position}
use Rattle.cookie_rows.specs.HeaderItems.{items_at}
use Rattle.cookie_rows.specs.Items.{bare, groups_in_order, rows_of}
use Rattle.cookie_rows.specs.Stored.{domains_in, stored_in}
use Rattle.cookie_rows.proofs.HeaderItems.{refs_none, refs_rows, sorted_in_order, sorted_some}
use Rattle.cookie_rows.proofs.PlacedGroups.{given_in_any_order, moved_none, placed, some_given, of_placed, of_groups}
use Rattle.cookie_rows.proofs.Results.{either_way, if_ok_map, on_err_map}
use Rattle.cookie_rows.proofs.StoredNumbers.{any_number}
use Rattle.cookie_rows.proofs.header_order.in_header_order.Goals as goal

-- the rows that were sorted are in the order of the header
in_order : (c : goal.After-drop-positions-2)
    → InHeaderOrder c.args.url.now (moment_of c.args.now) (contents_of (groups_in_order (domains_in c.args.groups.now)) None None) (rows_of (map (λ r. r.now) c.sort.new.items.items))
in_order c =
    let m = c.args.groups.now in
    let url = c.args.url.now in
    let now = moment_of c.args.now in
    let stored = groups_by_position (stored_in m) in
    let positions = c.in_ok-positions.positions.items in
    let others = of_groups m (λ gs others. AreGroups others) (c.rows_by_place.ensures.groups (placed m) (of_placed m (λ gs others. AreGroups gs) c.requires.1.0)) in
    sorted_in_order (domains_in m) c.requires.0 c.requires.1 url now stored (λ test. any_number test m) others
    positions (given_in_any_order m c.rows_by_place.ensures.any_order url now positions c.in_ok-positions.ensures.positions)
    (map (λ r. r.now) c.in_ok-items.items.items) (map (λ r. r.now) c.sort.new.items.items)
    (c.in_ok-items.ensures.items ∙ ap (flat_map (items_at stored)) c.deref.ensures.value) c.sort.ensures.moved c.sort.ensures.sorted

pub returns-clause-order : goal.returns-clause-order
returns-clause-order c =
    let InOrder = InHeaderOrder c.args.url.now (moment_of c.args.now) (contents_of (groups_in_order (domains_in c.args.groups.now)) None None) in
    if_ok_map c.cookies_of.result
    (λ cookies are. subst InOrder (sym (are ∙ ap (map (λ r. r.now.row)) c.deref-2.ensures.value ∙ refs_rows c.sort.new.items.items)) (in_order c))
    c.cookies_of.ensures.cookies

pub returns-clause-memory : goal.returns-clause-memory
returns-clause-memory c =
    let asked = given c.args.url.now (moment_of c.args.now) (flat (bare (domains_in c.args.groups.now))) in
    on_err_map c.cookies_of.result
    (λ some none. some (c.deref-2.ensures.value
    ∙ refs_none c.sort.new.items.items (sorted_some (domains_in c.args.groups.now) asked (map (λ r. r.now) c.sort.new.items.items) (in_order c).0 none)))
    c.cookies_of.ensures.memory

pub returns-in_err-positions-clause-memory : goal.returns-in_err-positions-clause-memory
returns-in_err-positions-clause-memory c =
    let url = c.args.url.now in
    let now = moment_of c.args.now in
    let others = bare (groups_by_position (stored_in c.args.groups.now)) in
    either_way c.from_residual.result
    (some_given c.args.groups.now c.rows_by_place.ensures.any_order url now (c.rows_at_positions.ensures.rows url now others) (c.rows_at_positions.ensures.count url now others) c.in_err-positions.ensures.memory)

pub returns-in_err-items-clause-memory : goal.returns-in_err-items-clause-memory
returns-in_err-items-clause-memory c =
    let url = c.args.url.now in
    let now = moment_of c.args.now in
    let others = bare (groups_by_position (stored_in c.args.groups.now)) in
    either_way c.from_residual-in_err-items.result
    (some_given c.args.groups.now c.rows_by_place.ensures.any_order url now (c.rows_at_positions.ensures.rows url now others) (c.rows_at_positions.ensures.count url now others)
    (λ none. c.in_err-items.ensures.memory (c.deref.ensures.value ∙ moved_none _ _ c.in_ok-positions.ensures.positions none)))
