use Rattle.std.proofs.Common.{◌∙◌, sym, ap}
use Rattle.std.specs.Prelude.{is_none}
use Rattle.cookie_parts.specs.Cookie.{Row}
use Rattle.cookie_parts.specs.Domain.{domain_text}
use Rattle.cookie_lookup.specs.SearchView.{group_position}
use Rattle.ordered_map.specs.Entries.{entries}
use Rattle.cookie_lookup.specs.Positions.{paths_in_order}
use Rattle.cookie_rows.specs.GroupChanges.{texts_by, put_at, found}
use Rattle.cookie_rows.specs.Items.{find_item_paths, put_item_paths, put_items, Item}
use Rattle.cookie_rows.specs.Stored.{domains_in}
use Rattle.cookie_rows.proofs.DomainMaps.{position_none}
use Rattle.cookie_rows.proofs.Maps.{put_set, same_set, found_some, found_none}
use Rattle.cookie_rows.proofs.Results.{either_way, if_ok_map, known_some, on_err_map, on_ok_map}
use Rattle.cookie_rows.proofs.domains.put_row.Goals as goal

pub returns-in-Some-clause-put : goal.returns-in-Some-clause-put
returns-in-Some-clause-put c =
    let es = entries c.args.groups.now in
    let q = c.as_str.result.now in
    let domain = c.as_str.ensures ∙ ap (λ (r : Row). domain_text r.domain) c.cookie.view_is in
    let change = put_item_paths c.args.cookie c.args.number in
    on_ok_map c.put.result
    (λ new. ap (texts_by paths_in_order) (known_some c.get_mut.result c.in-Some.is (c.get_mut.follows.holds c.put.new.self)).written
    ∙ put_set paths_in_order change q es c.in-Some.group.now c.put.new.self c.in-Some.ensures.value new
    ∙ ap (λ t. put_at change t (texts_by paths_in_order es)) domain)
    c.put.ensures.put

pub returns-in-Some-clause-is_new : goal.returns-in-Some-clause-is_new
returns-in-Some-clause-is_new c =
    let es = entries c.args.groups.now in
    let q = c.as_str.result.now in
    let domain = c.as_str.ensures ∙ ap (λ (r : Row). domain_text r.domain) c.cookie.view_is in
    let named = find_item_paths c.args.cookie.path.text c.args.cookie.raw.name in
    if_ok_map c.put.result
    (λ is_new is. is ∙ ap is_none (found_some paths_in_order named q es c.in-Some.group.now c.in-Some.ensures.value ∙ ap (λ t. found named t (texts_by paths_in_order es)) domain))
    c.put.ensures.is_new

pub returns-in-Some-clause-unchanged : goal.returns-in-Some-clause-unchanged
returns-in-Some-clause-unchanged c =
    on_err_map c.put.result
    (λ same. ap (texts_by paths_in_order) (known_some c.get_mut.result c.in-Some.is (c.get_mut.follows.holds c.put.new.self)).written ∙ same_set paths_in_order _ (entries c.args.groups.now) c.in-Some.group.now c.put.new.self c.in-Some.ensures.value same)
    c.put.ensures.unchanged

pub returns-in-Some-clause-memory : goal.returns-in-Some-clause-memory
returns-in-Some-clause-memory c =
    let es = entries c.args.groups.now in
    let q = c.as_str.result.now in
    let domain = c.as_str.ensures ∙ ap (λ (r : Row). domain_text r.domain) c.cookie.view_is in
    let named = find_item_paths c.args.cookie.path.text c.args.cookie.raw.name in
    on_err_map c.put.result
    (λ none. sym (found_some paths_in_order named q es c.in-Some.group.now c.in-Some.ensures.value ∙ ap (λ t. found named t (texts_by paths_in_order es)) domain) ∙ none)
    c.put.ensures.memory

pub returns-in_err-new-in-None-clause-memory : goal.returns-in_err-new-in-None-clause-memory
returns-in_err-new-in-None-clause-memory c =
    let es = entries c.args.groups.now in
    let domain = c.as_str.ensures ∙ ap (λ (r : Row). domain_text r.domain) c.cookie.view_is in
    let named = find_item_paths c.args.cookie.path.text c.args.cookie.raw.name in
    either_way c.from_residual.result (sym (found_none paths_in_order named c.as_str.result.now es c.in-None.ensures.value ∙ ap (λ t. found named t (texts_by paths_in_order es)) domain))

pub add_domain-requires : goal.add_domain-requires
add_domain-requires c =
    let es = entries c.args.groups.now in
    let q = c.as_str.result.now in
    let domain = c.as_str.ensures ∙ ap (λ (r : Row). domain_text r.domain) c.cookie.view_is in
    let row = c.in_ok-new-in-None.ensures in
    record {
      absent = ap (λ (i : Item). group_position (domain_text i.row.domain) (domains_in c.get_mut.follows.lender-at-none)) row
          ∙ ap (λ m. group_position (domain_text c.args.cookie.domain) (domains_in m)) c.get_mut.follows.holds-at-none
          ∙ ap (λ t. group_position t (texts_by paths_in_order es)) (sym domain) ∙ position_none paths_in_order q es c.in-None.ensures.value;
    }

pub returns-in_err-add_domain-in-None-clause-memory : goal.returns-in_err-add_domain-in-None-clause-memory
returns-in_err-add_domain-in-None-clause-memory c =
    let es = entries c.args.groups.now in
    let domain = c.as_str.ensures ∙ ap (λ (r : Row). domain_text r.domain) c.cookie.view_is in
    let named = find_item_paths c.args.cookie.path.text c.args.cookie.raw.name in
    either_way c.from_residual-in_err-add_domain-in-None.result
    (sym (found_none paths_in_order named c.as_str.result.now es c.in-None.ensures.value ∙ ap (λ t. found named t (texts_by paths_in_order es)) domain))

pub returns-in_err-add_domain-in-None-clause-unchanged : goal.returns-in_err-add_domain-in-None-clause-unchanged
returns-in_err-add_domain-in-None-clause-unchanged c =
    either_way c.from_residual-in_err-add_domain-in-None.result
    (c.in_err-add_domain-in-None.ensures.unchanged ∙ ap domains_in c.get_mut.follows.holds-at-none)

pub returns-in_ok-add_domain-in-None-clause-put : goal.returns-in_ok-add_domain-in-None-clause-put
returns-in_ok-add_domain-in-None-clause-put c =
    let row = c.in_ok-new-in-None.ensures in
    c.in_ok-add_domain-in-None.ensures.added
    ∙ ap (λ m. put_items c.in_ok-new-in-None.field-0.row c.in_ok-new-in-None.field-0.number (domains_in m)) c.get_mut.follows.holds-at-none
    ∙ ap (λ (i : Item). put_items i.row i.number (domains_in c.args.groups.now)) row

pub returns-in_ok-add_domain-in-None-clause-is_new : goal.returns-in_ok-add_domain-in-None-clause-is_new
returns-in_ok-add_domain-in-None-clause-is_new c =
    let es = entries c.args.groups.now in
    let domain = c.as_str.ensures ∙ ap (λ (r : Row). domain_text r.domain) c.cookie.view_is in
    let named = find_item_paths c.args.cookie.path.text c.args.cookie.raw.name in
    ap is_none (found_none paths_in_order named c.as_str.result.now es c.in-None.ensures.value ∙ ap (λ t. found named t (texts_by paths_in_order es)) domain)
