use Rattle.std.proofs.Common.{List, ◌∙◌, sym, ap}
use Rattle.cookie_parts.specs.Cookie.{Row}
use Rattle.ordered_map.specs.Entries.{entries, in_order}
use Rattle.cookie_rows.specs.GroupChanges.{texts_by, put_at, found, row_named}
use Rattle.cookie_rows.specs.Items.{put_item, rows_of, Item}
use Rattle.cookie_rows.specs.Stored.{paths_in}
use Rattle.cookie_rows.proofs.Maps.{put_set, found_some, found_none}
use Rattle.cookie_rows.proofs.Results.{known_some}
use Rattle.cookie_rows.proofs.path_table.replace_in.Goals as goal

pub replace-requires : goal.replace-requires
replace-requires c =
    let es = entries c.args.groups.now in
    let path = c.as_str.ensures ∙ ap (λ (r : Row). r.path.text) c.cookie.view_is in
    let named = λ (items : List Item). row_named c.args.cookie.raw.name (rows_of items) in
    record {
      stored = λ none. c.requires.stored (ap (λ t. found named t (texts_by in_order es)) (sym path)
          ∙ sym (found_some in_order named c.as_str.result.now es c.in-Some.group.now c.in-Some.ensures.value) ∙ none);
    }

pub returns-in-Some : goal.returns-in-Some
returns-in-Some c number =
    let es = entries c.args.groups.now in
    let q = c.as_str.result.now in
    let path = c.as_str.ensures ∙ ap (λ (r : Row). r.path.text) c.cookie.view_is in
    ap (texts_by in_order) (known_some c.get_mut.result c.in-Some.is (c.get_mut.follows.holds c.replace.new.self)).written
    ∙ put_set in_order (put_item c.args.cookie number) q es c.in-Some.group.now c.replace.new.self c.in-Some.ensures.value (c.replace.ensures number)
    ∙ ap (λ t. put_at (put_item c.args.cookie number) t (texts_by in_order es)) path

pub returns-in-None : goal.returns-in-None
returns-in-None c number =
    let path = c.as_str.ensures ∙ ap (λ (r : Row). r.path.text) c.cookie.view_is in
    let named = λ (items : List Item). row_named c.args.cookie.raw.name (rows_of items) in
    absurd (c.requires.stored (ap (λ t. found named t (paths_in c.args.groups.now)) (sym path)
    ∙ sym (found_none in_order named c.as_str.result.now (entries c.args.groups.now) c.in-None.ensures.value)))
