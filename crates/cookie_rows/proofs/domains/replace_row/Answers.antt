use Rattle.std.proofs.Common.{◌∙◌, sym, ap}
use Rattle.cookie_parts.specs.Cookie.{Row}
use Rattle.cookie_parts.specs.Domain.{domain_text}
use Rattle.ordered_map.specs.Entries.{entries}
use Rattle.cookie_lookup.specs.Positions.{paths_in_order}
use Rattle.cookie_rows.specs.GroupChanges.{texts_by, put_at, found}
use Rattle.cookie_rows.specs.Items.{find_item_paths, put_item_paths}
use Rattle.cookie_rows.specs.Stored.{domains_in}
use Rattle.cookie_rows.proofs.Maps.{put_set, found_some, found_none}
use Rattle.cookie_rows.proofs.Results.{known_some}
use Rattle.cookie_rows.proofs.domains.replace_row.Goals as goal

pub replace-requires : goal.replace-requires
replace-requires c =
    let es = entries c.args.groups.now in
    let domain = c.as_str.ensures ∙ ap (λ (r : Row). domain_text r.domain) c.cookie.view_is in
    let named = find_item_paths c.args.cookie.path.text c.args.cookie.raw.name in
    record {
      stored = λ none. c.requires.stored (ap (λ t. found named t (texts_by paths_in_order es)) (sym domain)
          ∙ sym (found_some paths_in_order named c.as_str.result.now es c.in-Some.group.now c.in-Some.ensures.value) ∙ none);
    }

pub returns-in-Some : goal.returns-in-Some
returns-in-Some c number =
    let es = entries c.args.groups.now in
    let q = c.as_str.result.now in
    let domain = c.as_str.ensures ∙ ap (λ (r : Row). domain_text r.domain) c.cookie.view_is in
    ap (texts_by paths_in_order) (known_some c.get_mut.result c.in-Some.is (c.get_mut.follows.holds c.replace.new.self)).written
    ∙ put_set paths_in_order (put_item_paths c.args.cookie number) q es c.in-Some.group.now c.replace.new.self c.in-Some.ensures.value (c.replace.ensures number)
    ∙ ap (λ t. put_at (put_item_paths c.args.cookie number) t (texts_by paths_in_order es)) domain

pub returns-in-None : goal.returns-in-None
returns-in-None c number =
    let domain = c.as_str.ensures ∙ ap (λ (r : Row). domain_text r.domain) c.cookie.view_is in
    let named = find_item_paths c.args.cookie.path.text c.args.cookie.raw.name in
    absurd (c.requires.stored (ap (λ t. found named t (domains_in c.args.groups.now)) (sym domain)
    ∙ sym (found_none paths_in_order named c.as_str.result.now (entries c.args.groups.now) c.in-None.ensures.value)))
