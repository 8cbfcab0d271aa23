use Rattle.std.proofs.Common.{◌≡◌, ◌≤◌, ◌+◌, ◌*◌, ◌++◌, length, drop}
use Rattle.std.specs.List.{flat_map}
use Rattle.cookie_words.specs.Moments.{moment_of}
use Rattle.cookie_laws.specs.Given.{is_given}
use Rattle.cookie_laws.specs.Related.{after_dots}
use Rattle.cookie_lookup.specs.SearchView.{at_domain, how_many_found, how_many_pairs_found}
use Rattle.cookie_lookup.specs.Positions.{SamePositions}
use Rattle.cookie_lookup.specs.Candidates.{dots, most_paths, candidate_paths, candidate_domains}
use Rattle.cookie_lookup.proofs.finding.push_domains.Given as goal

abbrev pub invariant-loop-at : goal.invariant-loop-at
invariant-loop-at g l =
    let view_of = g.S.Search.view_of l.search in
    let first = g.S.Search.view_of l.fn.search in
    let left = after_dots (drop l.at l.host) in
    let look = at_domain (is_given l.url (moment_of l.now)) first.groups (candidate_paths l.url.path) in
    record {
      positions : SamePositions (l.positions.items ++ flat_map look left) (l.fn.positions.items ++ flat_map look (candidate_domains l.host));
      groups : view_of.groups ≡ first.groups;
      domains : view_of.domains + length left ≡ first.domains + (1 + dots l.host);
      room : view_of.paths + length left * most_paths l.url ≤ first.paths + (1 + dots l.host) * most_paths l.url;
      paths : view_of.paths + how_many_found first.groups left * most_paths l.url
          ≤ first.paths + how_many_found first.groups (candidate_domains l.host) * most_paths l.url;
      every_path : first.paths + how_many_pairs_found first.groups (candidate_paths l.url.path) (candidate_domains l.host)
          ≤ view_of.paths + how_many_pairs_found first.groups (candidate_paths l.url.path) left;
    }
