use Rattle.std.proofs.Common.{◌∙◌, sym, ap}
use Rattle.cookie_parts.specs.Cookie.{Row}
use Rattle.cookie_parts.specs.Domain.{domain_text}
use Rattle.cookie_lookup.specs.SearchView.{group_position}
use Rattle.ordered_map.specs.Entries.{entries}
use Rattle.cookie_lookup.specs.Positions.{paths_in_order}
use Rattle.cookie_rows.specs.GroupChanges.{texts_by, put_at, found}
use Rattle.cookie_rows.specs.Items.{find_item_paths, put_item_paths, put_items}
use Rattle.cookie_rows.specs.Stored.{domains_in}
use Rattle.cookie_rows.proofs.DomainMaps.{position_none}
use Rattle.cookie_rows.proofs.Maps.{put_set, same_set, found_some}
use Rattle.cookie_rows.proofs.Results.{known_some, on_err_map, on_ok_map}
use Rattle.cookie_rows.proofs.domains.add_row.Goals as goal

pub add-requires : goal.add-requires
add-requires c =
    let es = entries c.args.groups.now in
    let named = find_item_paths c.args.row.row.path.text c.args.row.row.raw.name in
    let domain = c.as_str.ensures ∙ ap (λ (r : Row). domain_text r.domain) c.behind-row.view_is ∙ ap (λ (r : Row). domain_text r.domain) c.cookie.ensures in
    record { new = found_some paths_in_order named c.as_str.result.now es c.in-Some.group.now c.in-Some.ensures.value ∙ ap (λ t. found named t (texts_by paths_in_order es)) domain ∙ c.requires.new }

pub returns-in-Some-clause-added : goal.returns-in-Some-clause-added
returns-in-Some-clause-added c =
    let es = entries c.args.groups.now in
    let q = c.as_str.result.now in
    let domain = c.as_str.ensures ∙ ap (λ (r : Row). domain_text r.domain) c.behind-row.view_is ∙ ap (λ (r : Row). domain_text r.domain) c.cookie.ensures in
    let change = put_item_paths c.args.row.row c.args.row.number in
    on_ok_map c.add.result
    (λ new. ap (texts_by paths_in_order) (known_some c.get_mut.result c.in-Some.is (c.get_mut.follows.holds c.add.new.self)).written
    ∙ put_set paths_in_order change q es c.in-Some.group.now c.add.new.self c.in-Some.ensures.value new
    ∙ ap (λ t. put_at change t (texts_by paths_in_order es)) domain)
    c.add.ensures.added

pub returns-in-Some-clause-unchanged : goal.returns-in-Some-clause-unchanged
returns-in-Some-clause-unchanged c =
    on_err_map c.add.result
    (λ same. ap (texts_by paths_in_order) (known_some c.get_mut.result c.in-Some.is (c.get_mut.follows.holds c.add.new.self)).written ∙ same_set paths_in_order _ (entries c.args.groups.now) c.in-Some.group.now c.add.new.self c.in-Some.ensures.value same)
    c.add.ensures.unchanged

pub add_domain-requires : goal.add_domain-requires
add_domain-requires c =
    let es = entries c.args.groups.now in
    let q = c.as_str.result.now in
    let domain = c.as_str.ensures ∙ ap (λ (r : Row). domain_text r.domain) c.behind-row.view_is ∙ ap (λ (r : Row). domain_text r.domain) c.cookie.ensures in
    record {
      absent = ap (λ m. group_position (domain_text c.args.row.row.domain) (domains_in m)) c.get_mut.follows.holds-at-none
          ∙ ap (λ t. group_position t (texts_by paths_in_order es)) (sym domain) ∙ position_none paths_in_order q es c.in-None.ensures.value;
    }

pub returns-in-None-clause-added : goal.returns-in-None-clause-added
returns-in-None-clause-added c =
    on_ok_map c.add_domain.result
    (λ added. added ∙ ap (λ m. put_items c.args.row.row c.args.row.number (domains_in m)) c.get_mut.follows.holds-at-none)
    c.add_domain.ensures.added

pub returns-in-None-clause-unchanged : goal.returns-in-None-clause-unchanged
returns-in-None-clause-unchanged c =
    on_err_map c.add_domain.result (λ same. same ∙ ap domains_in c.get_mut.follows.holds-at-none) c.add_domain.ensures.unchanged
