use Rattle.std.proofs.Common.{◌∙◌, ap, map}
use Rattle.std.specs.Prelude.{option_map, slice_get}
use Rattle.cookie_lookup.specs.Positions.{groups_by_position}
use Rattle.cookie_rows.specs.Stored.{stored_in}
use Rattle.cookie_rows.proofs.Places.{bare_texts}
use Rattle.cookie_rows.proofs.StoredPositions.{group_at, no_group_at, path_texts}
use Rattle.cookie_rows.proofs.map_search.MapSearchListedSearch.path_text.Goals as goal

pub returns-in_err-paths : goal.returns-in_err-paths
returns-in_err-paths c =
    let m = c.args.self.now.groups.now in
    ap (option_map (λ t. t.now)) c.from_residual.ensures
    ∙ ap (λ paths. slice_get (map (λ p. p.0) paths) c.args.path) (no_group_at m.by_position c.args.domain c.in_err-paths.ensures.value)
    ∙ ap (λ ts. slice_get ts c.args.path) (bare_texts c.args.domain (groups_by_position (stored_in m)))

pub returns-in-Some : goal.returns-in-Some
returns-in-Some c =
    let m = c.args.self.now.groups.now in
    let group = c.in_ok-paths.paths.now in
    let there = group_at m.by_position c.args.domain group c.in_ok-paths.ensures.value in
    c.in-Some.ensures.path
    ∙ ap (λ ts. slice_get ts c.args.path) (path_texts group ∙ ap (map (λ p. p.0)) there ∙ bare_texts c.args.domain (groups_by_position (stored_in m)))

pub returns-in-None : goal.returns-in-None
returns-in-None c =
    let m = c.args.self.now.groups.now in
    let group = c.in_ok-paths.paths.now in
    let there = group_at m.by_position c.args.domain group c.in_ok-paths.ensures.value in
    c.in-None.ensures.path
    ∙ ap (λ ts. slice_get ts c.args.path) (path_texts group ∙ ap (map (λ p. p.0)) there ∙ bare_texts c.args.domain (groups_by_position (stored_in m)))
