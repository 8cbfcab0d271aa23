use Rattle.std.proofs.Common.{◌+◌, ◌∙◌, ap, map, Some, List}
use Rattle.cookie_parts.specs.Cookie.{Row}
use Rattle.cookie_lookup.specs.SearchView.{SearchView, group_position, under}
use Rattle.cookie_lookup.specs.Positions.{groups_by_position}
use Rattle.cookie_rows.specs.Items.{bare, rows_of}
use Rattle.cookie_rows.specs.Stored.{StoredItems, stored_in}
use Rattle.cookie_rows.proofs.Places.{bare_place, bare_rows}
use Rattle.cookie_rows.proofs.StoredPositions.{group_at, path_position, rows_at}
use Rattle.cookie_rows.proofs.map_search.MapSearchSearch.path.Goals as goal

pub returns-in_err-position-clause-position : goal.returns-in_err-position-clause-position
returns-in_err-position-clause-position c =
    let m = c.args.self.now.groups.now in
    let group = c.in_ok-paths.paths.now in
    let there = group_at m.by_position c.args.domain group c.in_ok-paths.ensures.value in
    c.from_residual-in_err-position.ensures ∙ c.in_err-position.ensures.position ∙ path_position c.args.text.now group ∙ ap (group_position c.args.text.now) there
    ∙ bare_place c.args.text.now c.args.domain (groups_by_position (stored_in m))

pub returns-clause-position : goal.returns-clause-position
returns-clause-position c =
    let m = c.args.self.now.groups.now in
    let group = c.in_ok-paths.paths.now in
    let there = group_at m.by_position c.args.domain group c.in_ok-paths.ensures.value in
    c.in_ok-position.ensures.position ∙ path_position c.args.text.now group ∙ ap (group_position c.args.text.now) there
    ∙ bare_place c.args.text.now c.args.domain (groups_by_position (stored_in m))

pub returns-clause-view_of : goal.returns-clause-view_of
returns-clause-view_of c =
    let m = c.args.self.now.groups.now in
    let gs = groups_by_position (stored_in m) in
    let at = c.in_ok-position.position in
    let group = c.in_ok-paths.paths.now in
    let there = group_at m.by_position c.args.domain group c.in_ok-paths.ensures.value in
    let view_of : List Row → SearchView = λ rows. record {
      groups = bare gs;
      domains = c.args.self.now.lookups.domains;
      paths = c.args.self.now.lookups.paths + 1;
      current = Some rows;
    } in
    ap view_of
    (ap (λ (items : StoredItems). map (λ i. i.1.row) items) c.in_ok-position.ensures.names ∙ rows_at group at
    ∙ ap (λ ps. rows_of (under at ps)) there ∙ bare_rows c.args.domain at gs)
