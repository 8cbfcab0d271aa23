use Rattle.std.proofs.Common.{◌++◌, [], ap, subst, OnErr, OnOk}
use Rattle.std.specs.Prelude.{◌≢◌}
use Rattle.url.specs.Parts.{Parts}
use Rattle.cookie_lookup.specs.Positions.{SamePositions}
use Rattle.cookie_lookup.specs.Candidates.{candidate_paths}
use Rattle.cookie_lookup.proofs.FoundPairs.{domain_looked_up}
use Rattle.cookie_lookup.proofs.AgreeingTests.{known_look_up}
use Rattle.cookie_lookup.proofs.Results.{on_ok}
use Rattle.cookie_lookup.proofs.LookupResults.{place_below}
use Rattle.cookie_lookup.proofs.finding.push_domain.Goals as goal

pub push_paths-requires-clause-domain : goal.push_paths-requires-clause-domain
push_paths-requires-clause-domain g c =
    let same = ap (λ s. s.groups) c.in-Some.ensures.view_of in
    rw same (place_below _ (g.S.Search.view_of c.args.search.now).groups c.in-Some.domain c.in-Some.ensures.position)

pub returns-in-Some-clause-positions : goal.returns-in-Some-clause-positions
returns-in-Some-clause-positions g c =
    subst (λ positions. OnOk c.push_paths.result (SamePositions c.push_paths.new.positions.items (c.args.positions.now.items ++ positions)))
    (known_look_up c.under-row_filter.result.host_only c.under-row_filter.result.suffix c.args.text.now c.args.url.now c.under-row_filter.result.url.now c.args.now c.under-row_filter.result.time c.under-row_filter.ensures.url c.under-row_filter.ensures.time c.under-row_filter.ensures.agrees
    (g.S.Search.view_of c.args.search.now).groups (g.S.Search.view_of c.domain.new.self).groups (g.met.S.Search.are_groups c.args.search.now) (ap (λ s. s.groups) c.in-Some.ensures.view_of) c.in-Some.domain c.in-Some.ensures.position)
    c.push_paths.ensures.positions

pub returns-in-Some-clause-memory : goal.returns-in-Some-clause-memory
returns-in-Some-clause-memory g c =
    subst (λ positions. OnErr c.push_paths.result (positions ≢ []))
    (known_look_up c.under-row_filter.result.host_only c.under-row_filter.result.suffix c.args.text.now c.args.url.now c.under-row_filter.result.url.now c.args.now c.under-row_filter.result.time c.under-row_filter.ensures.url c.under-row_filter.ensures.time c.under-row_filter.ensures.agrees
    (g.S.Search.view_of c.args.search.now).groups (g.S.Search.view_of c.domain.new.self).groups (g.met.S.Search.are_groups c.args.search.now) (ap (λ s. s.groups) c.in-Some.ensures.view_of) c.in-Some.domain c.in-Some.ensures.position)
    c.push_paths.ensures.memory

pub returns-in-Some-clause-every_path : goal.returns-in-Some-clause-every_path
returns-in-Some-clause-every_path g c =
    let first = g.S.Search.view_of c.args.search.now in
    on_ok c.push_paths.result
    (domain_looked_up first.groups (g.S.Search.view_of c.domain.new.self).groups (candidate_paths c.args.url.now.path) (candidate_paths c.under-row_filter.result.url.now.path) c.args.text.now c.in-Some.domain
    first.paths (g.S.Search.view_of c.domain.new.self).paths (g.S.Search.view_of c.push_paths.new.search).paths
    (ap (λ s. s.groups) c.in-Some.ensures.view_of) (ap (λ (u : Parts). candidate_paths u.path) c.under-row_filter.ensures.url) (ap (λ s. s.paths) c.in-Some.ensures.view_of) c.in-Some.ensures.position)
    c.push_paths.ensures.every_path
