use Rattle.std.proofs.Common.{◌∙◌, sym, ap}
use Rattle.std.specs.Map.{lookup}
use Rattle.cookie_parts.specs.Cookie.{Row}
use Rattle.cookie_parts.specs.Domain.{domain_text}
use Rattle.ordered_map.specs.Entries.{entries, is_text}
use Rattle.cookie_lookup.specs.Positions.{paths_in_order}
use Rattle.cookie_rows.specs.GroupChanges.{texts_by}
use Rattle.cookie_rows.specs.Items.{put_item_paths}
use Rattle.cookie_rows.proofs.DomainMaps.{lookup_none}
use Rattle.cookie_rows.proofs.Maps.{put_push}
use Rattle.cookie_rows.proofs.Results.{on_ok_map}
use Rattle.cookie_rows.proofs.domains.add_domain.Goals as goal

pub push-requires : goal.push-requires
push-requires c =
    let es = entries c.args.groups.now in
    let domain = c.in_ok-domain.ensures.ok ∙ c.as_str.ensures ∙ ap (λ (r : Row). domain_text r.domain) c.behind-row.view_is ∙ ap (λ (r : Row). domain_text r.domain) c.cookie.ensures in
    record { new = ap (λ t. lookup (is_text t) es) domain ∙ sym (lookup_none paths_in_order (domain_text c.args.row.row.domain) es c.requires.absent) }

pub returns-clause-added : goal.returns-clause-added
returns-clause-added c =
    let es = entries c.args.groups.now in
    let row = c.args.row.row in
    let domain = c.in_ok-domain.ensures.ok ∙ c.as_str.ensures ∙ ap (λ (r : Row). domain_text r.domain) c.behind-row.view_is ∙ ap (λ (r : Row). domain_text r.domain) c.cookie.ensures in
    let absent = lookup_none paths_in_order (domain_text row.domain) es c.requires.absent in
    on_ok_map c.push.result
    (λ pushed. ap (texts_by paths_in_order) pushed
    ∙ put_push paths_in_order (put_item_paths row c.args.row.number) (domain_text row.domain) c.in_ok-domain.domain es c.in_ok-group.group domain absent c.in_ok-group.ensures)
    c.push.ensures.pushed
