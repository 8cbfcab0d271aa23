use Rattle.std.proofs.Common.{◌≡◌, ◌≤◌, ◌-◌, ◌++◌, length, drop}
use Rattle.cookie_words.specs.Moments.{moment_of}
use Rattle.cookie_lookup.specs.RowFilter.{is_given_under}
use Rattle.cookie_lookup.specs.SearchView.{rows_in, row_positions}
use Rattle.cookie_lookup.proofs.finding.push_rows.Given as goal

abbrev pub invariant-loop-cookie : goal.invariant-loop-cookie
invariant-loop-cookie g l =
    let rows = rows_in (g.S.Search.view_of l.search).current in
    let test = is_given_under l.row_filter.host_only l.row_filter.suffix l.row_filter.url.now (moment_of l.row_filter.time) in
    record {
      within : l.row ≤ length rows;
      pushed : l.positions.items ++ row_positions test l.domain l.path l.row (drop l.row rows)
          ≡ l.fn.positions.items ++ row_positions test l.domain l.path 0 rows;
    }

abbrev pub decreases-loop-cookie : goal.decreases-loop-cookie
decreases-loop-cookie g l = length (rows_in (g.S.Search.view_of l.search).current) - l.row
