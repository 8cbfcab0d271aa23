use Rattle.std.proofs.Common.{length, ap, append-nil, sym, ◌∙◌, Some, None}
use Rattle.std.specs.Str.Lines.{lines}
use Rattle.std.proofs.lemmas.Iterator.Consumers.{YieldsList-at, YieldsList-end, YieldsList-from_enumerate, YieldsList-turn}
use Rattle.std.proofs.lemmas.Iterator.Splits.{YieldsList-from_lines}
use Rattle.std.proofs.lemmas.Result.{err_from_is_err_and}
use Rattle.cookie_netscape.specs.Files.{rows_in_lines}
use Rattle.cookie_netscape.specs.declared.error.NetscapeError.TheVariants.{Memory}
use Rattle.cookie_netscape.proofs.LinesRead.{all_lines, next_fails, next_rows}
use Rattle.cookie_netscape.proofs.reading.from_text.Goals as goal

pub loop-index-preserved : goal.loop-index-preserved
loop-index-preserved c =
    let road = YieldsList-at c.into_iter-index-iterator.ensures.into_iter_gives
    (YieldsList-from_enumerate (YieldsList-at c.enumerate-index-items.ensures.source
    (YieldsList-from_lines c.args.text.now c.lines.ensures.rest)) c.enumerate-index-items.ensures.count) in
    let step = YieldsList-turn road c.loop-index.yielded _ c.loop-index.yielded_by _ _ (c.in-Some.index, c.in-Some.line) c.in-Some.is c.next.ensures.steps in
    next_rows c.args.text.now c.loop-index.yielded (c.in-Some.index, c.in-Some.line) c.in-Some.index c.in-Some.line.now c.loop-index.cookies.items
    None step.0 step.1 c.loop-index.invariant (c.in_ok-cookie.ensures.cookie ∙ ap Some c.in_default.is)
    ∙ ap Some (append-nil c.loop-index.cookies.items)

pub loop-index-preserved-in-Continue-branch-3 : goal.loop-index-preserved-in-Continue-branch-3
loop-index-preserved-in-Continue-branch-3 c =
    let road = YieldsList-at c.into_iter-index-iterator.ensures.into_iter_gives
    (YieldsList-from_enumerate (YieldsList-at c.enumerate-index-items.ensures.source
    (YieldsList-from_lines c.args.text.now c.lines.ensures.rest)) c.enumerate-index-items.ensures.count) in
    let step = YieldsList-turn road c.loop-index.yielded _ c.loop-index.yielded_by _ _ (c.in-Some.index, c.in-Some.line) c.in-Some.is c.next.ensures.steps in
    next_rows c.args.text.now c.loop-index.yielded (c.in-Some.index, c.in-Some.line) c.in-Some.index c.in-Some.line.now c.loop-index.cookies.items
    (Some c.in-Some-2.cookie) step.0 step.1 c.loop-index.invariant (c.in_ok-cookie.ensures.cookie ∙ ap Some c.in-Some-2.is)
    ∙ ap Some (sym c.in_ok-push.ensures.items)

pub returns-in_err-cookie-clause-errors : goal.returns-in_err-cookie-clause-errors
returns-in_err-cookie-clause-errors c =
    let road = YieldsList-at c.into_iter-index-iterator.ensures.into_iter_gives
    (YieldsList-from_enumerate (YieldsList-at c.enumerate-index-items.ensures.source
    (YieldsList-from_lines c.args.text.now c.lines.ensures.rest)) c.enumerate-index-items.ensures.count) in
    let step = YieldsList-turn road c.loop-index.yielded _ c.loop-index.yielded_by _ _ (c.in-Some.index, c.in-Some.line) c.in-Some.is c.next.ensures.steps in
    let fault = err_from_is_err_and c.from_residual.result c.from_residual.ensures.1 in
    rw (fault.1, fault.2)
    (next_fails c.args.text.now (length c.loop-index.yielded) c.in-Some.index c.in-Some.line.now c.loop-index.cookies.items c.in_err-cookie.field-0.0
    step.0 step.1 c.loop-index.invariant c.in_err-cookie.ensures.errors)

pub returns-in_err-push-clause-errors : goal.returns-in_err-push-clause-errors
returns-in_err-push-clause-errors c =
    let road = YieldsList-at c.into_iter-index-iterator.ensures.into_iter_gives
    (YieldsList-from_enumerate (YieldsList-at c.enumerate-index-items.ensures.source
    (YieldsList-from_lines c.args.text.now c.lines.ensures.rest)) c.enumerate-index-items.ensures.count) in
    let step = YieldsList-turn road c.loop-index.yielded _ c.loop-index.yielded_by _ _ (c.in-Some.index, c.in-Some.line) c.in-Some.is c.next.ensures.steps in
    let fault = err_from_is_err_and c.from_residual-in_err-push.result c.from_residual-in_err-push.ensures.1 in
    rw (fault.1, fault.2)
    (next_fails c.args.text.now (length c.loop-index.yielded) c.in-Some.index c.in-Some.line.now c.loop-index.cookies.items Memory
    step.0 step.1 c.loop-index.invariant (c.in-Some-2.cookie, c.in_ok-cookie.ensures.cookie ∙ ap Some c.in-Some-2.is))

pub returns-clause-cookies : goal.returns-clause-cookies
returns-clause-cookies c =
    let road = YieldsList-at c.into_iter-index-iterator.ensures.into_iter_gives
    (YieldsList-from_enumerate (YieldsList-at c.enumerate-index-items.ensures.source
    (YieldsList-from_lines c.args.text.now c.lines.ensures.rest)) c.enumerate-index-items.ensures.count) in
    let all = YieldsList-end road c.loop-index.yielded _ c.loop-index.yielded_by _ _ c.in-None.is c.next.ensures.steps in
    sym (ap rows_in_lines (all_lines (length c.loop-index.yielded) (lines c.args.text.now) all.1)) ∙ c.loop-index.invariant
