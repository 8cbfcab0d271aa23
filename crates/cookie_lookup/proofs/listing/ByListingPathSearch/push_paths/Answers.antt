use Rattle.std.proofs.Common.{◌≡◌, ◌+◌, ◌++◌, List, ℕ, length, map, bytes_eq}
use Rattle.std.specs.Prelude.{filter}
use Rattle.std.specs.List.{flat_map, list_any}
use Rattle.cookie_words.specs.Moments.{moment_of}
use Rattle.cookie_lookup.specs.RowFilter.{is_given_under}
use Rattle.cookie_lookup.specs.SearchView.{at_path, how_many_paths, under}
use Rattle.cookie_lookup.specs.Candidates.{candidate_paths}
use Rattle.cookie_lookup.proofs.FoundPairs.{at_least, listed_paths, paths_counted}
use Rattle.cookie_lookup.proofs.Listed.{listed_positions, paths_differ, same_after, some_same}
use Rattle.cookie_lookup.proofs.CandidatePaths.{path_differ}
use Rattle.cookie_lookup.proofs.Results.{on_err, on_ok}
use Rattle.cookie_lookup.proofs.listing.ByListingPathSearch.push_paths.Goals as goal

pub returns-then-are_few_paths-clause-positions : goal.returns-then-are_few_paths-clause-positions
returns-then-are_few_paths-clause-positions g c =
    let groups = (g.S.Search.view_of c.args.search.now).groups in
    let row_filter = c.args.row_filter.now in
    let test = is_given_under row_filter.host_only row_filter.suffix row_filter.url.now (moment_of row_filter.time) in
    let paths = under c.args.domain groups in
    let texts = candidate_paths row_filter.url.now.path in
    let listed : List (ℕ × ℕ × ℕ) = flat_map (at_path test c.args.domain paths) (filter (λ t. list_any (bytes_eq t) texts) (map (λ p. p.0) paths)) in
    let all : List (ℕ × ℕ × ℕ) = flat_map (at_path test c.args.domain paths) texts in
    let same = listed_positions test c.args.domain paths texts (path_differ row_filter.url.now.path) (paths_differ groups (g.met.S.Search.are_groups c.args.search.now) c.args.domain) in
    on_ok c.push_listed.result (λ (e : c.push_listed.new.positions.items ≡ c.args.positions.now.items ++ listed). same_after c.push_listed.new.positions.items c.args.positions.now.items listed all e same) c.push_listed.ensures.positions

pub returns-then-are_few_paths-clause-memory : goal.returns-then-are_few_paths-clause-memory
returns-then-are_few_paths-clause-memory g c =
    let groups = (g.S.Search.view_of c.args.search.now).groups in
    let row_filter = c.args.row_filter.now in
    let test = is_given_under row_filter.host_only row_filter.suffix row_filter.url.now (moment_of row_filter.time) in
    let paths = under c.args.domain groups in
    let texts = candidate_paths row_filter.url.now.path in
    let same = listed_positions test c.args.domain paths texts (path_differ row_filter.url.now.path) (paths_differ groups (g.met.S.Search.are_groups c.args.search.now) c.args.domain) in
    on_err c.push_listed.result (some_same (flat_map (at_path test c.args.domain paths) (filter (λ t. list_any (bytes_eq t) texts) (map (λ p. p.0) paths))) (flat_map (at_path test c.args.domain paths) texts) same) c.push_listed.ensures.memory

pub returns-then-are_few_paths-clause-every_path : goal.returns-then-are_few_paths-clause-every_path
returns-then-are_few_paths-clause-every_path g c =
    let first = g.S.Search.view_of c.args.search.now in
    let path = c.args.row_filter.now.url.now.path in
    let paths = under c.args.domain first.groups in
    let most = listed_paths (candidate_paths path) (path_differ path) paths (paths_differ first.groups (g.met.S.Search.are_groups c.args.search.now) c.args.domain) in
    on_ok c.push_listed.result (λ (e : (g.S.Search.view_of c.push_listed.new.search).paths ≡ first.paths + length (filter (λ t. list_any (bytes_eq t) (candidate_paths path)) (map (λ p. p.0) paths))).
    at_least first.paths (how_many_paths paths (candidate_paths path)) (length (filter (λ t. list_any (bytes_eq t) (candidate_paths path)) (map (λ p. p.0) paths))) (g.S.Search.view_of c.push_listed.new.search).paths e most) c.push_listed.ensures.every_path

pub returns-else-are_few_paths-clause-every_path : goal.returns-else-are_few_paths-clause-every_path
returns-else-are_few_paths-clause-every_path g c =
    let first = g.S.Search.view_of c.args.search.now in
    let texts = candidate_paths c.args.row_filter.now.url.now.path in
    let paths = under c.args.domain first.groups in
    on_ok c.push_paths.result (λ (e : (g.S.Search.view_of c.push_paths.new.search).paths ≡ first.paths + length texts).
    at_least first.paths (how_many_paths paths texts) (length texts) (g.S.Search.view_of c.push_paths.new.search).paths e (paths_counted paths texts)) c.push_paths.ensures.every_path
