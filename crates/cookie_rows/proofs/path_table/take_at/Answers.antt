use Rattle.std.proofs.Common.{◌≡◌, ◌∙◌, ap, sym, []}
use Rattle.std.specs.Prelude.{option_map, slice_get, string_bytes}
use Rattle.std.specs.Map.{set_value}
use Rattle.std.specs.Option.{unwrap_or}
use Rattle.ordered_map.specs.Entries.{entries, in_order, text_at}
use Rattle.cookie_rows.specs.GroupChanges.{is_empty_at, texts_by}
use Rattle.cookie_rows.specs.Stored.{paths_in}
use Rattle.cookie_rows.proofs.Maps.{at_text, empty_set}
use Rattle.cookie_rows.proofs.Results.{known_some}
use Rattle.cookie_rows.proofs.TakenOut.{found_there, key_stays, none_other, stored_path, stored_row, taken_in, takes_there}
use Rattle.cookie_rows.proofs.path_table.take_at.Goals as goal

pub returns-in-Some-clause-taken : goal.returns-in-Some-clause-taken
returns-in-Some-clause-taken c text item there =
    let m = c.args.groups.now in
    let at = c.args.path in
    let group = c.in-Some.group.now in
    let key : text_at m at ≡ text = ap (λ o. unwrap_or o []) (stored_path c.args.row text item m.by_position at there) in
    let takes = c.remove_at.ensures item (stored_row c.args.row text item m.by_position at group there c.in-Some.ensures.value) in
    let written = (known_some c.at_mut.result c.in-Some.is (c.at_mut.follows.holds c.remove_at.new.self)).written in
    takes_there item (paths_in m) key (ap (texts_by in_order) written)
    (taken_in in_order (text_at m at) (entries m) group c.remove_at.new.self item (found_there m c.len.ensures.distinct at group c.in-Some.ensures.value) takes)

pub returns-in-Some-clause-is_empty : goal.returns-in-Some-clause-is_empty
returns-in-Some-clause-is_empty c text item there =
    let m = c.args.groups.now in
    let at = c.args.path in
    let group = c.in-Some.group.now in
    let key : text_at m at ≡ text = ap (λ o. unwrap_or o []) (stored_path c.args.row text item m.by_position at there) in
    let written = (known_some c.at_mut.result c.in-Some.is (c.at_mut.follows.holds c.remove_at.new.self)).written in
    c.is_empty.ensures
    ∙ empty_set in_order (text_at m at) (entries m) group c.remove_at.new.self (found_there m c.len.ensures.distinct at group c.in-Some.ensures.value)
    ∙ ap (λ t. is_empty_at t (texts_by in_order (set_value (at_text (text_at m at)) (entries m) c.remove_at.new.self))) key
    ∙ ap (λ fs. is_empty_at text (texts_by in_order fs)) (sym written)

pub returns-in-Some-clause-keys : goal.returns-in-Some-clause-keys
returns-in-Some-clause-keys c =
    let m = c.args.groups.now in
    key_stays m.by_position _ (at_text (text_at m c.args.path)) c.remove_at.new.self c.args.path
    (known_some c.at_mut.result c.in-Some.is (c.at_mut.follows.holds c.remove_at.new.self)).by_position

pub returns-in-None-clause-taken : goal.returns-in-None-clause-taken
returns-in-None-clause-taken c text item there =
    let m = c.args.groups.now in
    absurd (none_other (λ e. string_bytes e.1.0) (λ e. e.1.1) (slice_get m.by_position c.args.path) text c.in-None.ensures.value
    (stored_path c.args.row text item m.by_position c.args.path there))

pub returns-in-None-clause-is_empty : goal.returns-in-None-clause-is_empty
returns-in-None-clause-is_empty c text item there =
    let m = c.args.groups.now in
    absurd (none_other (λ e. string_bytes e.1.0) (λ e. e.1.1) (slice_get m.by_position c.args.path) text c.in-None.ensures.value
    (stored_path c.args.row text item m.by_position c.args.path there))

pub returns-in-None-clause-keys : goal.returns-in-None-clause-keys
returns-in-None-clause-keys c = ap (λ m. option_map (λ e. string_bytes e.1.0) (slice_get m.by_position c.args.path)) c.at_mut.follows.holds-at-none
