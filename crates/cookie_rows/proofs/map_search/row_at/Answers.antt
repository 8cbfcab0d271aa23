use Rattle.std.proofs.Common.{◌∙◌, ap}
use Rattle.std.specs.Prelude.{option_map, slice_get}
use Rattle.cookie_lookup.specs.SearchView.{under}
use Rattle.cookie_rows.proofs.StoredPositions.{group_at, names_at, no_group_at, no_names_at}
use Rattle.cookie_rows.proofs.map_search.row_at.Goals as goal

pub returns-in_err-paths : goal.returns-in_err-paths
returns-in_err-paths c =
    let at = c.args.position in
    ap (option_map (λ row. row.now)) c.from_residual.ensures
    ∙ ap (λ paths. slice_get (under at.1 paths) at.2) (no_group_at c.args.groups.now.by_position at.0 c.in_err-paths.ensures.value)

pub returns-in_err-names : goal.returns-in_err-names
returns-in_err-names c =
    let at = c.args.position in
    let there = group_at c.args.groups.now.by_position at.0 c.in_ok-paths.paths.now c.in_ok-paths.ensures.value in
    ap (option_map (λ row. row.now)) c.from_residual-in_err-names.ensures
    ∙ ap (λ items. slice_get items at.2) (no_names_at c.in_ok-paths.paths.now at.1 c.in_err-names.ensures.names ∙ ap (under at.1) there)

pub returns-in-Some : goal.returns-in-Some
returns-in-Some c =
    let at = c.args.position in
    let there = group_at c.args.groups.now.by_position at.0 c.in_ok-paths.paths.now c.in_ok-paths.ensures.value in
    c.in-Some.ensures.item
    ∙ ap (λ items. slice_get items at.2) (names_at c.in_ok-paths.paths.now at.1 c.in_ok-names.names.now c.in_ok-names.ensures.names ∙ ap (under at.1) there)

pub returns-in-None : goal.returns-in-None
returns-in-None c =
    let at = c.args.position in
    let there = group_at c.args.groups.now.by_position at.0 c.in_ok-paths.paths.now c.in_ok-paths.ensures.value in
    c.in-None.ensures.item
    ∙ ap (λ items. slice_get items at.2) (names_at c.in_ok-paths.paths.now at.1 c.in_ok-names.names.now c.in_ok-names.ensures.names ∙ ap (under at.1) there)
