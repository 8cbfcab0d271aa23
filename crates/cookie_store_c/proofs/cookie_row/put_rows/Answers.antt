use Rattle.std.proofs.Common.{ap, arith, length-append, map, ◌∷◌, [], ◌∙◌, sym}
use Rattle.std.proofs.lemmas.List.{length-map}
use Rattle.cookie_store_c.specs.Buffers.{at_start}
use Rattle.cookie_store_c.specs.CookieRows.{cookie_row}
use Rattle.cookie_store_c.specs.RowIters.{remaining_rows}
use Rattle.cookie_store_c.proofs.Filling.{filled_next}
use Rattle.cookie_store_c.proofs.Passing.{among, one_more, passed}
use Rattle.cookie_store_c.proofs.cookie_row.put_rows.Goals as goal

pub loop-row-preserved : goal.loop-row-preserved
loop-row-preserved c =
    let came = c.loop-row.yielded in
    let row = c.in-Some.row in
    let invariant = c.loop-row.invariant in
    let small = among came row _ _ (remaining_rows c.args.all) c.in-Some.ensures.steps invariant.rest in
    record {
      can = tt;
      ends = tt;
      rest = passed came row _ _ _ c.in-Some.ensures.steps invariant.rest;
      place = omega (arith, invariant.place, length-append came (row ∷ []));
      filled =
          filled_next cookie_row (map (λ x. x.now) came) row.now c.args.rows.now c.loop-row.rows c.loop-row.place c.reported.result
          invariant.filled (invariant.place ∙ sym (length-map came (λ x. x.now))) (omega (arith, small, c.requires)) c.reported.ensures
          ∙ ap (λ all. at_start (map cookie_row all) c.args.rows.now) (sym (one_more came row));
    }
