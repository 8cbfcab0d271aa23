use Rattle.std.proofs.Common.{◌≡◌, ◌+◌, arith}
use Rattle.cookie_lookup.specs.SearchView.{how_many_found}
use Rattle.cookie_lookup.specs.Candidates.{dots, candidate_domains}
use Rattle.cookie_lookup.proofs.FoundPairs.{at_least, found_counted}
use Rattle.cookie_lookup.proofs.CandidateDomains.{length_related}
use Rattle.cookie_lookup.proofs.Results.{on_ok}
use Rattle.cookie_lookup.proofs.listing.ByListingDomainSearch.push_domains.Goals as goal

pub returns-else-are_few_domains-clause-every_domain : goal.returns-else-are_few_domains-clause-every_domain
returns-else-are_few_domains-clause-every_domain g c =
    let first = g.S.Search.view_of c.args.search.now in
    let host = c.args.host.now in
    let after = g.S.Search.view_of c.push_domains.new.search in
    on_ok c.push_domains.result (λ (e : after.domains ≡ first.domains + (1 + dots host)).
    at_least first.domains (how_many_found first.groups (candidate_domains host)) (1 + dots host) after.domains e (omega (arith, found_counted first.groups (candidate_domains host), length_related host))) c.push_domains.ensures.every_domain
