use Rattle.std.proofs.Common.{[], filter, map, ap, sym, ◌∙◌}
use Rattle.std.specs.Fn.{FnReturnsAt}
use Rattle.std.proofs.lemmas.Result.{err_from_is_err_and}
use Rattle.cookie_serde.specs.Selections.{is_selected}
use Rattle.cookie_serde.proofs.SavedLines.{filter_around, filter_past, stopped_at, writes_more}
use Rattle.cookie_core.proofs.Walked.{around, done_more, walked_on}
use Rattle.cookie_serde.proofs.saving.save_rows.Goals as goal

pub returns-in_err-save_row-clause-stopped : goal.returns-in_err-save_row-clause-stopped
returns-in_err-save_row-clause-stopped g c =
    let refused = err_from_is_err_and c.from_residual.result c.from_residual.ensures.1 in
    let l = c.loop-row in
    let kept = is_selected c.args.which in
    let row = c.in-Some.row.now in
    let before = map (λ c. c.now) l.yielded in
    let after = c.next.new.self in
    rw (refused.1, refused.2)
    (stopped_at (FnReturnsAt g.F.Fn c.args.text_of) _ (filter kept c.args.store.now.rows) (filter kept before) row (filter kept after) _ _ _ _ _ _
    (ap (filter kept) (around l.yielded c.in-Some.row l.row-iterator after c.args.store.now.rows c.in-Some.ensures.steps l.invariant.rest)
    ∙ filter_around kept before row after (sym c.if-selects.ensures))
    l.invariant.lines l.invariant.count c.in_err-save_row.ensures.stopped)

pub loop-row-preserved-in-Continue-1 : goal.loop-row-preserved-in-Continue-1
loop-row-preserved-in-Continue-1 g c =
    let l = c.loop-row in
    let kept = is_selected c.args.which in
    let row = c.in-Some.row.now in
    let before = map (λ c. c.now) l.yielded in
    record {
      lines =
          rw (ap (filter kept) (done_more l.yielded c.in-Some.row) ∙ filter_around kept before row [] (sym c.if-selects.ensures))
          (writes_more (FnReturnsAt g.F.Fn c.args.text_of) (filter kept before) row _ _ _ l.invariant.lines c.in_ok-save_row.ensures.whole);
      count = c.in_ok-save_row.ensures.count ∙ l.invariant.count;
      rest = walked_on l.yielded c.in-Some.row l.row-iterator c.next.new.self c.args.store.now.rows c.in-Some.ensures.steps l.invariant.rest;
    }

pub loop-row-preserved : goal.loop-row-preserved
loop-row-preserved g c =
    let l = c.loop-row in
    let kept = is_selected c.args.which in
    let row = c.in-Some.row.now in
    let before = map (λ c. c.now) l.yielded in
    record {
      lines = rw (ap (filter kept) (done_more l.yielded c.in-Some.row) ∙ filter_past kept before row (sym c.if-selects.ensures)) l.invariant.lines;
      count = l.invariant.count;
      rest = walked_on l.yielded c.in-Some.row l.row-iterator c.next.new.self c.args.store.now.rows c.in-Some.ensures.steps l.invariant.rest;
    }
