use Rattle.std.proofs.Common.{length, arith, ap, sym, subst, ◌∙◌, IsPermutation}
use Rattle.std.proofs.lemmas.List.Sorted.{IsPermutation-refl}
use Rattle.cookie_words.specs.Moments.{moment_of}
use Rattle.cookie_lookup.specs.SearchView.{how_many_pairs_found, of_host}
use Rattle.cookie_lookup.specs.Candidates.{url_candidate_domains, candidate_paths}
use Rattle.cookie_lookup.proofs.Bounds.{domains_most, paths_fit}
use Rattle.cookie_lookup.proofs.Results.{either_way}
use Rattle.cookie_lookup.proofs.FoundPositions.{found_in_any_order, from_none, from_zero, host_from_zero, none_found, paths_bound, some_found}
use Rattle.cookie_lookup.proofs.finding.found_by.Goals.{in-Some+in_ok-push_domains, in_default}
use Rattle.cookie_lookup.proofs.finding.found_by.Goals as goal

pub push_domains-requires-clause-paths : goal.push_domains-requires-clause-paths
push_domains-requires-clause-paths g c =
    paths_fit c.in-Some.host.now c.args.url.now.path (g.S.Search.view_of c.args.search.now).paths c.requires.paths
    (omega (arith, c.as_bytes.ensures.len, ap length c.as_bytes.ensures.value))
    (omega (arith, c.as_bytes-in-Some.ensures.len, ap length (c.as_bytes-in-Some.ensures.value ∙ c.path.ensures.value)))

pub returns-clause-positions : goal.returns-clause-positions
returns-clause-positions g c =
    let groups = (g.S.Search.view_of c.args.search.now).groups in
    let candidates = c.looked_up.ensures.given c.args.url.now (moment_of c.args.now) in
    elim c.match-host_str.branch [
      | in-Some+in_ok-push_domains w ↦
          rw w.positions-is (found_in_any_order c.args.url.now (moment_of c.args.now) candidates w.in-Some.host.now w.in-Some.ensures groups (g.met.S.Search.are_groups c.args.search.now)
          w.push_domains.new.positions.items (from_none c.new-positions.result.items w.push_domains.new.positions.items _ w.in_ok-push_domains.ensures.positions c.new-positions.ensures.items))
      | in_default w ↦
          rw (w.positions-is, c.new-positions.ensures.items)
          (subst (IsPermutation _) (sym (none_found c.args.url.now (moment_of c.args.now) candidates w.in_default.ensures groups)) (IsPermutation-refl _))
    ]

pub returns-in_err-push_domains-clause-memory : goal.returns-in_err-push_domains-clause-memory
returns-in_err-push_domains-clause-memory g c =
    either_way c.from_residual.result (some_found c.args.url.now (moment_of c.args.now) (c.looked_up.ensures.given c.args.url.now (moment_of c.args.now)) c.in-Some.host.now c.in-Some.ensures
    (g.S.Search.view_of c.args.search.now).groups (g.met.S.Search.are_groups c.args.search.now) c.in_err-push_domains.ensures.memory)

pub returns-in_err-push_domains-clause-paths : goal.returns-in_err-push_domains-clause-paths
returns-in_err-push_domains-clause-paths g c =
    paths_bound (g.S.Search.view_of c.args.search.now).groups c.args.url.now c.in-Some.host.now (g.S.Search.view_of c.args.search.now).paths (g.S.Search.view_of c.push_domains.new.search).paths
    c.in-Some.ensures c.requires.paths c.push_domains.ensures.paths

pub returns-clause-paths : goal.returns-clause-paths
returns-clause-paths g c = elim c.match-host_str.branch [
  | in-Some+in_ok-push_domains w ↦
      rw w.search-is (paths_bound (g.S.Search.view_of c.args.search.now).groups c.args.url.now w.in-Some.host.now (g.S.Search.view_of c.args.search.now).paths (g.S.Search.view_of w.push_domains.new.search).paths
      w.in-Some.ensures c.requires.paths w.push_domains.ensures.paths)
  | in_default w ↦ rw (w.search-is, c.requires.paths) (omega arith)
]

pub returns-in_err-push_domains-clause-domains : goal.returns-in_err-push_domains-clause-domains
returns-in_err-push_domains-clause-domains g c =
    domains_most c.args.url.now c.in-Some.host.now (g.S.Search.view_of c.args.search.now).domains (g.S.Search.view_of c.push_domains.new.search).domains
    c.in-Some.ensures c.requires.domains c.push_domains.ensures.domains

pub returns-clause-domains : goal.returns-clause-domains
returns-clause-domains g c = elim c.match-host_str.branch [
  | in-Some+in_ok-push_domains w ↦
      rw w.search-is (domains_most c.args.url.now w.in-Some.host.now (g.S.Search.view_of c.args.search.now).domains (g.S.Search.view_of w.push_domains.new.search).domains
      w.in-Some.ensures c.requires.domains w.push_domains.ensures.domains)
  | in_default w ↦ rw (w.search-is, c.requires.domains) (omega arith)
]

pub returns-clause-every_domain : goal.returns-clause-every_domain
returns-clause-every_domain g c =
    let first = g.S.Search.view_of c.args.search.now in
    elim c.match-host_str.branch [
      | in-Some+in_ok-push_domains w ↦
          rw w.search-is (host_from_zero (g.D.DomainSearch.fewest first.groups) c.args.url.now w.in-Some.host.now first.domains (g.S.Search.view_of w.push_domains.new.search).domains
          w.in-Some.ensures c.requires.domains w.in_ok-push_domains.ensures.every_domain)
      | in_default w ↦ rw (of_host, ← w.in_default.ensures) (omega arith)
    ]

pub returns-clause-every_path : goal.returns-clause-every_path
returns-clause-every_path g c =
    let first = g.S.Search.view_of c.args.search.now in
    elim c.match-host_str.branch [
      | in-Some+in_ok-push_domains w ↦
          rw w.search-is (from_zero (how_many_pairs_found first.groups (candidate_paths c.args.url.now.path)) c.args.url.now w.in-Some.host.now first.paths (g.S.Search.view_of w.push_domains.new.search).paths
          w.in-Some.ensures c.requires.paths w.in_ok-push_domains.ensures.every_path)
      | in_default w ↦ rw (url_candidate_domains, ← w.in_default.ensures) (omega arith)
    ]
