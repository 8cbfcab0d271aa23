use Rattle.std.proofs.Common.{arith, ap, ◌∙◌, sym}
use Rattle.std.proofs.lemmas.Option.{slice_get_within}
use Rattle.cookie_words.specs.Moments.{moment_of}
use Rattle.cookie_lookup.specs.RowFilter.{is_given_under}
use Rattle.cookie_lookup.specs.SearchView.{rows_in}
use Rattle.cookie_lookup.proofs.Results.{either_way}
use Rattle.cookie_lookup.proofs.LookupResults.{row_pushed, row_passed, rows_done, some_pass}
use Rattle.cookie_lookup.proofs.finding.push_rows.Goals.{then-gives+in_ok-push_position, else-gives}
use Rattle.cookie_lookup.proofs.finding.push_rows.Goals as goal

pub loop-cookie-preserved : goal.loop-cookie-preserved
loop-cookie-preserved g c =
    let rows = rows_in (g.S.Search.view_of c.args.search.now).current in
    let test = is_given_under c.args.row_filter.now.host_only c.args.row_filter.now.suffix c.args.row_filter.now.url.now (moment_of c.args.row_filter.now.time) in
    record {
      within = omega (arith, slice_get_within rows c.loop-cookie.row c.in-Some.cookie.now (sym c.in-Some.ensures.cookie));
      pushed = elim c.if-gives.branch [
        | then-gives+in_ok-push_position w ↦
            row_pushed test c.args.domain c.args.path c.loop-cookie.row rows c.in-Some.cookie.now c.in-Some.ensures.cookie c.loop-cookie.positions.items c.if-gives.positions.items _ c.loop-cookie.invariant.pushed
            (sym c.gives.ensures ∙ w.if-gives.true) (ap (λ v. v.items) w.positions-is ∙ w.in_ok-push_position.ensures)
        | else-gives w ↦
            row_passed test c.args.domain c.args.path c.loop-cookie.row rows c.in-Some.cookie.now c.in-Some.ensures.cookie c.loop-cookie.positions.items c.if-gives.positions.items _ c.loop-cookie.invariant.pushed
            (sym c.gives.ensures ∙ w.if-gives.false) (ap (λ v. v.items) w.positions-is)
      ];
    }

pub loop-cookie-smaller : goal.loop-cookie-smaller
loop-cookie-smaller g c =
    omega (arith, slice_get_within (rows_in (g.S.Search.view_of c.args.search.now).current) c.loop-cookie.row c.in-Some.cookie.now (sym c.in-Some.ensures.cookie))

pub returns-clause-positions : goal.returns-clause-positions
returns-clause-positions g c = rows_done (is_given_under c.args.row_filter.now.host_only c.args.row_filter.now.suffix c.args.row_filter.now.url.now (moment_of c.args.row_filter.now.time)) c.args.domain c.args.path c.loop-cookie.row (rows_in (g.S.Search.view_of c.args.search.now).current) c.loop-cookie.positions.items _ c.in_default.ensures.cookie c.loop-cookie.invariant.pushed

pub returns-in_err-push_position-clause-memory : goal.returns-in_err-push_position-clause-memory
returns-in_err-push_position-clause-memory g c =
    let rows = rows_in (g.S.Search.view_of c.args.search.now).current in
    either_way c.from_residual.result (some_pass (is_given_under c.args.row_filter.now.host_only c.args.row_filter.now.suffix c.args.row_filter.now.url.now (moment_of c.args.row_filter.now.time)) c.args.domain c.args.path 0 rows c.loop-cookie.row c.in-Some.cookie.now c.in-Some.ensures.cookie
    (sym c.gives.ensures ∙ c.if-gives.true))
