use Rattle.std.proofs.Common.{◌≡◌, ◌+◌, length}
use Rattle.cookie_lookup.specs.SearchView.{how_many_paths, under}
use Rattle.cookie_lookup.specs.Candidates.{candidate_paths}
use Rattle.cookie_lookup.proofs.FoundPairs.{at_least, paths_counted}
use Rattle.cookie_lookup.proofs.Results.{on_ok}
use Rattle.cookie_lookup.proofs.listing.ByLookupPathSearch.push_paths.Goals as goal

pub returns-clause-every_path : goal.returns-clause-every_path
returns-clause-every_path g c =
    let first = g.S.Search.view_of c.args.search.now in
    let texts = candidate_paths c.args.row_filter.now.url.now.path in
    let paths = under c.args.domain first.groups in
    on_ok c.push_paths.result (λ (e : (g.S.Search.view_of c.push_paths.new.search).paths ≡ first.paths + length texts).
    at_least first.paths (how_many_paths paths texts) (length texts) (g.S.Search.view_of c.push_paths.new.search).paths e (paths_counted paths texts)) c.push_paths.ensures.every_path
