use Rattle.std.proofs.Common.{◌∙◌, ap}
use Rattle.cookie_parts.specs.Cookie.{Row}
use Rattle.cookie_parts.specs.Domain.{domain_text}
use Rattle.cookie_laws.specs.Rows.{key_of}
use Rattle.ordered_map.specs.Entries.{entries}
use Rattle.cookie_lookup.specs.Positions.{paths_in_order}
use Rattle.cookie_rows.specs.GroupChanges.{texts_by, changed_at}
use Rattle.cookie_rows.specs.Items.{expire_item_paths}
use Rattle.cookie_rows.specs.Stored.{domains_in}
use Rattle.cookie_rows.proofs.Maps.{changed_set, changed_none}
use Rattle.cookie_rows.proofs.Results.{known_some}
use Rattle.cookie_rows.proofs.domains.expire_row.Goals as goal

pub returns-in-Some : goal.returns-in-Some
returns-in-Some c =
    let es = entries c.args.groups.now in
    let q = c.as_str.result.now in
    let key = key_of c.args.cookie.now in
    let domain = c.as_str.ensures ∙ ap (λ (r : Row). domain_text r.domain) c.cookie.view_is in
    let path = c.as_str-in-Some.ensures ∙ ap (λ (r : Row). r.path.text) c.cookie.view_is in
    ap (texts_by paths_in_order) (known_some c.get_mut.result c.in-Some.is (c.get_mut.follows.holds c.expire.new.self)).written
    ∙ changed_set paths_in_order (expire_item_paths c.as_str-in-Some.result.now c.name.result.now) q es c.in-Some.group.now c.expire.new.self c.in-Some.ensures.value c.expire.ensures
    ∙ ap (λ t. changed_at (expire_item_paths c.as_str-in-Some.result.now c.name.result.now) t (texts_by paths_in_order es)) domain
    ∙ ap (λ p. changed_at (expire_item_paths p c.name.result.now) key.domain (texts_by paths_in_order es)) path
    ∙ ap (λ n. changed_at (expire_item_paths key.path n) key.domain (texts_by paths_in_order es)) c.name.ensures

pub returns-in-None : goal.returns-in-None
returns-in-None c =
    let es = entries c.args.groups.now in
    let key = key_of c.args.cookie.now in
    let domain = c.as_str.ensures ∙ ap (λ (r : Row). domain_text r.domain) c.cookie.view_is in
    ap domains_in c.get_mut.follows.holds-at-none
    ∙ changed_none paths_in_order (expire_item_paths key.path key.name) c.as_str.result.now es c.in-None.ensures.value
    ∙ ap (λ t. changed_at (expire_item_paths key.path key.name) t (texts_by paths_in_order es)) domain
