use Rattle.std.proofs.Common.{◌∙◌, ap}
use Rattle.std.specs.Prelude.{slice_get}
use Rattle.cookie_lookup.specs.Positions.{groups_by_position}
use Rattle.cookie_rows.specs.Stored.{stored_in}
use Rattle.cookie_rows.proofs.Places.{bare_domains}
use Rattle.cookie_rows.proofs.StoredPositions.{text_at}
use Rattle.cookie_rows.proofs.map_search.MapSearchListedSearch.domain_text.Goals as goal

pub returns-in-Some : goal.returns-in-Some
returns-in-Some c =
    let m = c.args.self.now.groups.now in
    c.in-Some.ensures.key ∙ text_at m.by_position c.args.domain ∙ ap (λ ts. slice_get ts c.args.domain) (bare_domains (groups_by_position (stored_in m)))

pub returns-in-None : goal.returns-in-None
returns-in-None c =
    let m = c.args.self.now.groups.now in
    c.in-None.ensures.key ∙ text_at m.by_position c.args.domain ∙ ap (λ ts. slice_get ts c.args.domain) (bare_domains (groups_by_position (stored_in m)))
