use Rattle.std.proofs.Common.{◌≡◌, ◌+◌, ◌++◌, bytes_eq, drop, length, map}
use Rattle.std.specs.Prelude.{filter}
use Rattle.std.specs.List.{flat_map, list_any}
use Rattle.cookie_words.specs.Moments.{moment_of}
use Rattle.cookie_lookup.specs.RowFilter.{is_given_under}
use Rattle.cookie_lookup.specs.SearchView.{at_path, under}
use Rattle.cookie_lookup.specs.Candidates.{candidate_paths}
use Rattle.cookie_lookup.proofs.listing.push_listed.Given as goal

abbrev pub invariant-loop-place : goal.invariant-loop-place
invariant-loop-place g l =
    let view_of = g.S.Search.view_of l.search in
    let first = g.S.Search.view_of l.fn.search in
    let paths = under l.domain first.groups in
    let look = at_path (is_given_under l.row_filter.host_only l.row_filter.suffix l.row_filter.url.now (moment_of l.row_filter.time)) l.domain paths in
    let left = filter (λ text. list_any (bytes_eq text) (candidate_paths l.row_filter.url.now.path)) (drop l.place (map (λ p. p.0) paths)) in
    let all = filter (λ text. list_any (bytes_eq text) (candidate_paths l.row_filter.url.now.path)) (map (λ p. p.0) paths) in
    record {
      positions : l.positions.items ++ flat_map look left ≡ l.fn.positions.items ++ flat_map look all;
      groups : view_of.groups ≡ first.groups;
      domains : view_of.domains ≡ first.domains;
      paths : view_of.paths + length left ≡ first.paths + length all;
    }
