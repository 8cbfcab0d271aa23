use Rattle.std.proofs.Common.{◌≡◌, ◌+◌, ◌++◌, length}
use Rattle.std.specs.List.{flat_map}
use Rattle.cookie_words.specs.Moments.{moment_of}
use Rattle.cookie_lookup.specs.RowFilter.{is_given_under}
use Rattle.cookie_lookup.specs.SearchView.{at_path, under}
use Rattle.cookie_lookup.specs.Candidates.{front_texts}
use Rattle.cookie_lookup.proofs.finding.push_paths.Given as goal

abbrev pub invariant-loop-at : goal.invariant-loop-at
invariant-loop-at g l =
    let view_of = g.S.Search.view_of l.search in
    let first = g.S.Search.view_of l.fn.search in
    let texts = front_texts l.row_filter.url.now.path l.at in
    record {
      positions : l.positions.items ≡ l.fn.positions.items
          ++ flat_map (at_path (is_given_under l.row_filter.host_only l.row_filter.suffix l.row_filter.url.now (moment_of l.row_filter.time)) l.domain (under l.domain first.groups)) texts;
      groups : view_of.groups ≡ first.groups;
      domains : view_of.domains ≡ first.domains;
      paths : view_of.paths ≡ first.paths + length texts;
    }
