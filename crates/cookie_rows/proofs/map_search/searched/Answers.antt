use Rattle.std.proofs.Common.{◌≡◌, ◌≤◌, ◌*◌, ◌∙◌, IsPermutation, ap, subst}
use Rattle.std.specs.List.{flat_map}
use Rattle.std.proofs.lemmas.List.Sorted.{IsPermutation-trans}
use Rattle.cookie_words.specs.Moments.{moment_of}
use Rattle.cookie_laws.specs.Given.{given}
use Rattle.cookie_lookup.specs.Candidates.{candidate_paths, most_paths, url_candidate_domains}
use Rattle.cookie_lookup.specs.Groups.{AreGroups, flat}
use Rattle.cookie_lookup.specs.SearchView.{domains_found, given_positions, how_many_found, how_many_pairs_found, paths_found, rows_at}
use Rattle.cookie_lookup.specs.Positions.{groups_by_position}
use Rattle.cookie_rows.specs.Items.{bare}
use Rattle.cookie_rows.specs.Stored.{domains_in, stored_in}
use Rattle.cookie_rows.proofs.PlacedGroups.{moved_none, placed, some_given, of_placed, of_groups}
use Rattle.cookie_rows.proofs.Results.{either_way}
use Rattle.cookie_rows.proofs.map_search.searched.Goals as goal

-- rows at positions that are sorted by place
pub returns-clause-given : goal.returns-clause-given
returns-clause-given c =
    let m = c.args.groups.now in
    let url = c.args.url.now in
    let now = moment_of c.args.now in
    let positions = c.sort_by_place.new.positions.items in
    let found = of_placed m (λ gs others. IsPermutation (given_positions url now others) positions) (IsPermutation-trans _ _ _ c.in_ok-positions.ensures.positions c.sort_by_place.ensures.moved) in
    c.in_ok-cookies.ensures.rows ∙ ap (flat_map (rows_at (bare (groups_by_position (stored_in m))))) c.deref.ensures.value
    ∙ of_groups m (λ gs others. flat_map (rows_at others) positions ≡ given url now (flat gs))
    (c.rows_by_place.ensures.sorted (placed m) url now positions found c.sort_by_place.ensures.sorted)

-- the groups as stored are groups
others_are : (c : goal.After-drop-positions-2) → AreGroups (bare (groups_by_position (stored_in c.args.groups.now)))
others_are c =
    let m = c.args.groups.now in
    of_groups m (λ gs others. AreGroups others) (c.rows_by_place.ensures.groups (placed m) (of_placed m (λ gs others. AreGroups gs) c.requires))

-- as many domains are found in them as in order
same_domains : (c : goal.After-drop-positions-2)
    → how_many_found (bare (groups_by_position (stored_in c.args.groups.now))) (url_candidate_domains c.args.url.now) ≡ domains_found c.args.url.now (flat (bare (domains_in c.args.groups.now)))
same_domains c =
    let m = c.args.groups.now in
    let url = c.args.url.now in
    c.rows_at_positions.ensures.found url (bare (groups_by_position (stored_in m))) (others_are c)
    ∙ of_groups m (λ gs others. domains_found url (flat others) ≡ domains_found url (flat gs)) (c.rows_by_place.ensures.domains (placed m) url)

-- and as many paths
same_paths : (c : goal.After-drop-positions-2)
    → how_many_pairs_found (bare (groups_by_position (stored_in c.args.groups.now))) (candidate_paths c.args.url.now.path) (url_candidate_domains c.args.url.now)
    ≡ paths_found c.args.url.now (flat (bare (domains_in c.args.groups.now)))
same_paths c =
    let m = c.args.groups.now in
    let url = c.args.url.now in
    c.rows_at_positions.ensures.pairs_found url (bare (groups_by_position (stored_in m))) (others_are c)
    ∙ of_groups m (λ gs others. paths_found url (flat others) ≡ paths_found url (flat gs)) (c.rows_by_place.ensures.paths (placed m) url)

pub returns-clause-paths : goal.returns-clause-paths
returns-clause-paths c = subst (λ n. c.in_ok-positions.lookups.paths ≤ n * most_paths c.args.url.now) (same_domains c) c.in_ok-positions.ensures.paths

pub returns-clause-every_domain : goal.returns-clause-every_domain
returns-clause-every_domain c = subst (λ n. n ≤ c.in_ok-positions.lookups.domains) (same_domains c) c.in_ok-positions.ensures.every_domain

pub returns-clause-every_path : goal.returns-clause-every_path
returns-clause-every_path c = subst (λ n. n ≤ c.in_ok-positions.lookups.paths) (same_paths c) c.in_ok-positions.ensures.every_path

pub returns-in_err-positions-clause-memory : goal.returns-in_err-positions-clause-memory
returns-in_err-positions-clause-memory c =
    let m = c.args.groups.now in
    let url = c.args.url.now in
    let now = moment_of c.args.now in
    let others = bare (groups_by_position (stored_in m)) in
    either_way c.from_residual.result
    (some_given m c.rows_by_place.ensures.any_order url now (c.rows_at_positions.ensures.rows url now others) (c.rows_at_positions.ensures.count url now others) c.in_err-positions.ensures.memory)

pub returns-in_err-cookies-clause-memory : goal.returns-in_err-cookies-clause-memory
returns-in_err-cookies-clause-memory c =
    let m = c.args.groups.now in
    let url = c.args.url.now in
    let now = moment_of c.args.now in
    let others = bare (groups_by_position (stored_in m)) in
    either_way c.from_residual-in_err-cookies.result
    (some_given m c.rows_by_place.ensures.any_order url now (c.rows_at_positions.ensures.rows url now others) (c.rows_at_positions.ensures.count url now others)
    (λ none. c.in_err-cookies.ensures.memory (c.deref.ensures.value ∙ moved_none _ _ c.sort_by_place.ensures.moved (moved_none _ _ c.in_ok-positions.ensures.positions none))))
