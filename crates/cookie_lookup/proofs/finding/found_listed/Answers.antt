use Rattle.std.proofs.Common.{◌≤◌, OnOk, subst}
use Rattle.cookie_lookup.proofs.FoundPairs.{found_of_host}
use Rattle.cookie_lookup.proofs.finding.found_listed.Goals as goal

pub returns-clause-every_domain : goal.returns-clause-every_domain
returns-clause-every_domain g c =
    subst (λ n. OnOk c.found_by.result (n ≤ (g.S.Search.view_of c.found_by.new.search).domains)) (found_of_host (g.S.Search.view_of c.args.search.now).groups c.args.url.now) c.found_by.ensures.every_domain
