use Rattle.std.proofs.Common.{[], ◌∷◌, ◌++◌, length, ap, append-nil, sym, ◌∙◌, Some, None}
use Rattle.std.specs.Str.Lines.{lines}
use Rattle.std.proofs.lemmas.Iterator.Consumers.{YieldsList-at, YieldsList-end, YieldsList-from_enumerate, YieldsList-turn}
use Rattle.std.proofs.lemmas.Iterator.Splits.{YieldsList-from_lines}
use Rattle.std.proofs.lemmas.Result.{err_from_is_err_and}
use Rattle.cookie_netscape.specs.Files.{rows_in_lines}
use Rattle.cookie_netscape.specs.declared.error.NetscapeError.TheVariants.{Memory}
use Rattle.cookie_serde.proofs.NumberedLines.{all_lines, next_fails, next_rows}
use Rattle.cookie_serde.proofs.netscape.rows_of_text.Goals as goal

pub loop-index-preserved : goal.loop-index-preserved
loop-index-preserved c =
    let road = YieldsList-at c.into_iter-index-iterator.ensures.into_iter_gives
    (YieldsList-from_enumerate (YieldsList-at c.enumerate-index-items.ensures.source
    (YieldsList-from_lines c.args.text.now c.lines.ensures.rest)) c.enumerate-index-items.ensures.count) in
    let turn = YieldsList-turn road c.loop-index.yielded _ c.loop-index.yielded_by _ _ (c.in-Some.index, c.in-Some.line) c.in-Some.is c.next.ensures.steps in
    let so_far = c.loop-index.invariant in (
      so_far.0,
      next_rows c.reads_line_by_line.ensures.next c.args.text.now c.loop-index.yielded (c.in-Some.index, c.in-Some.line) c.in-Some.index
          c.in-Some.line.now so_far.0 None turn.0 turn.1 so_far.1 (c.in_ok-cookie.ensures.cookie ∙ ap Some c.in_default.is)
          ∙ ap Some (append-nil so_far.0),
      so_far.2,
    )

pub loop-index-preserved-in-Continue-branch-3 : goal.loop-index-preserved-in-Continue-branch-3
loop-index-preserved-in-Continue-branch-3 c =
    let road = YieldsList-at c.into_iter-index-iterator.ensures.into_iter_gives
    (YieldsList-from_enumerate (YieldsList-at c.enumerate-index-items.ensures.source
    (YieldsList-from_lines c.args.text.now c.lines.ensures.rest)) c.enumerate-index-items.ensures.count) in
    let turn = YieldsList-turn road c.loop-index.yielded _ c.loop-index.yielded_by _ _ (c.in-Some.index, c.in-Some.line) c.in-Some.is c.next.ensures.steps in
    let so_far = c.loop-index.invariant in (
      so_far.0 ++ c.in-Some-2.cookie ∷ [],
      next_rows c.reads_line_by_line.ensures.next c.args.text.now c.loop-index.yielded (c.in-Some.index, c.in-Some.line) c.in-Some.index
          c.in-Some.line.now so_far.0 (Some c.in-Some-2.cookie) turn.0 turn.1 so_far.1 (c.in_ok-cookie.ensures.cookie ∙ ap Some c.in-Some-2.is),
      c.in_ok-take.ensures.taken so_far.0 so_far.2,
    )

pub returns-in_err-cookie-clause-failed : goal.returns-in_err-cookie-clause-failed
returns-in_err-cookie-clause-failed c =
    let road = YieldsList-at c.into_iter-index-iterator.ensures.into_iter_gives
    (YieldsList-from_enumerate (YieldsList-at c.enumerate-index-items.ensures.source
    (YieldsList-from_lines c.args.text.now c.lines.ensures.rest)) c.enumerate-index-items.ensures.count) in
    let turn = YieldsList-turn road c.loop-index.yielded _ c.loop-index.yielded_by _ _ (c.in-Some.index, c.in-Some.line) c.in-Some.is c.next.ensures.steps in
    let so_far = c.loop-index.invariant in
    let fault = err_from_is_err_and c.from_residual.result c.from_residual.ensures.1 in
    rw (fault.1, fault.2)
    (next_fails c.reads_line_by_line.ensures.failed c.args.text.now (length c.loop-index.yielded) c.in-Some.index c.in-Some.line.now so_far.0
    c.in_err-cookie.field-0.0 turn.0 turn.1 so_far.1 c.in_err-cookie.ensures.errors)

pub returns-in_err-take-clause-failed : goal.returns-in_err-take-clause-failed
returns-in_err-take-clause-failed c =
    let road = YieldsList-at c.into_iter-index-iterator.ensures.into_iter_gives
    (YieldsList-from_enumerate (YieldsList-at c.enumerate-index-items.ensures.source
    (YieldsList-from_lines c.args.text.now c.lines.ensures.rest)) c.enumerate-index-items.ensures.count) in
    let turn = YieldsList-turn road c.loop-index.yielded _ c.loop-index.yielded_by _ _ (c.in-Some.index, c.in-Some.line) c.in-Some.is c.next.ensures.steps in
    let so_far = c.loop-index.invariant in
    let fault = err_from_is_err_and c.from_residual-in_err-take.result c.from_residual-in_err-take.ensures.1 in
    rw (fault.1, fault.2)
    (next_fails c.reads_line_by_line.ensures.failed c.args.text.now (length c.loop-index.yielded) c.in-Some.index c.in-Some.line.now so_far.0
    Memory turn.0 turn.1 so_far.1 (c.in-Some-2.cookie, c.in_ok-cookie.ensures.cookie ∙ ap Some c.in-Some-2.is))

pub returns-clause-built : goal.returns-clause-built
returns-clause-built c =
    let road = YieldsList-at c.into_iter-index-iterator.ensures.into_iter_gives
    (YieldsList-from_enumerate (YieldsList-at c.enumerate-index-items.ensures.source
    (YieldsList-from_lines c.args.text.now c.lines.ensures.rest)) c.enumerate-index-items.ensures.count) in
    let seen = YieldsList-end road c.loop-index.yielded _ c.loop-index.yielded_by _ _ c.in-None.is c.next.ensures.steps in
    let read = c.loop-index.invariant in
    (read.0, sym (ap rows_in_lines (all_lines (length c.loop-index.yielded) (lines c.args.text.now) seen.1)) ∙ read.1, read.2)
