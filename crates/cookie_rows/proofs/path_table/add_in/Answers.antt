use Rattle.std.proofs.Common.{List, [], ◌∷◌, ◌++◌, ◌≡◌, ◌∙◌, sym, ap, rules}
use Rattle.std.specs.Prelude.{string_bytes}
use Rattle.std.specs.Map.{lookup}
use Rattle.cookie_parts.specs.Cookie.{Row}
use Rattle.ordered_map.specs.Entries.{entries, in_order}
use Rattle.cookie_rows.specs.GroupChanges.{texts_by, put_at, found, row_named}
use Rattle.cookie_rows.specs.Items.{put_item, rows_of, Item}
use Rattle.cookie_rows.proofs.Maps.{at_text, put_set, same_set, put_push, found_some}
use Rattle.cookie_rows.proofs.Results.{known_some, on_ok_map, on_err_map}
use Rattle.cookie_rows.proofs.path_table.add_in.Goals as goal

pub add-requires : goal.add-requires
add-requires c =
    let es = entries c.args.groups.now in
    let named = λ (items : List Item). row_named c.args.row.row.raw.name (rows_of items) in
    let path = c.as_str.ensures ∙ ap (λ (r : Row). r.path.text) c.behind-row.view_is ∙ ap (λ (r : Row). r.path.text) c.cookie.ensures in
    record { new = found_some in_order named c.as_str.result.now es c.in-Some.group.now c.in-Some.ensures.value ∙ ap (λ t. found named t (texts_by in_order es)) path ∙ c.requires.new }

pub returns-in-Some-clause-added : goal.returns-in-Some-clause-added
returns-in-Some-clause-added c =
    let es = entries c.args.groups.now in
    let path = c.as_str.ensures ∙ ap (λ (r : Row). r.path.text) c.behind-row.view_is ∙ ap (λ (r : Row). r.path.text) c.cookie.ensures in
    let change = put_item c.args.row.row c.args.row.number in
    on_ok_map c.add.result
    (λ new. ap (texts_by in_order) (known_some c.get_mut.result c.in-Some.is (c.get_mut.follows.holds c.add.new.self)).written
    ∙ put_set in_order change c.as_str.result.now es c.in-Some.group.now c.add.new.self c.in-Some.ensures.value new
    ∙ ap (λ t. put_at change t (texts_by in_order es)) path)
    c.add.ensures.added

pub returns-in-Some-clause-unchanged : goal.returns-in-Some-clause-unchanged
returns-in-Some-clause-unchanged c =
    on_err_map c.add.result
    (λ same. ap (texts_by in_order) (known_some c.get_mut.result c.in-Some.is (c.get_mut.follows.holds c.add.new.self)).written
    ∙ same_set in_order (at_text c.as_str.result.now) (entries c.args.groups.now) c.in-Some.group.now c.add.new.self c.in-Some.ensures.value same)
    c.add.ensures.unchanged

pub push-requires : goal.push-requires
push-requires c =
    let path = c.as_str.ensures ∙ ap (λ (r : Row). r.path.text) c.behind-row.view_is ∙ ap (λ (r : Row). r.path.text) c.cookie.ensures in
    let key = c.in_ok-path-in-None.path in
    let is : string_bytes key ≡ c.args.row.row.path.text = search rules in
    record {
      new = ap (λ m. lookup (at_text (string_bytes key)) (entries m)) c.get_mut.follows.holds-at-none
          ∙ ap (λ t. lookup (at_text t) (entries c.args.groups.now)) (is ∙ sym path) ∙ sym c.in-None.ensures.value;
    }

pub returns-in_ok-path-in-None-clause-added : goal.returns-in_ok-path-in-None-clause-added
returns-in_ok-path-in-None-clause-added c =
    let es = entries c.args.groups.now in
    let path = c.as_str.ensures ∙ ap (λ (r : Row). r.path.text) c.behind-row.view_is ∙ ap (λ (r : Row). r.path.text) c.cookie.ensures in
    let change = put_item c.args.row.row c.args.row.number in
    let key = c.in_ok-path-in-None.path in
    let is : string_bytes key ≡ c.args.row.row.path.text = search rules in
    on_ok_map c.push.result
    (λ pushed. ap (texts_by in_order) pushed
    ∙ ap (λ m. texts_by in_order (entries m ++ (key, c.of_one.result) ∷ [])) c.get_mut.follows.holds-at-none
    ∙ put_push in_order change c.as_str.result.now key es c.of_one.result (is ∙ sym path) c.in-None.ensures.value c.of_one.ensures
    ∙ ap (λ t. put_at change t (texts_by in_order es)) path)
    c.push.ensures.pushed
