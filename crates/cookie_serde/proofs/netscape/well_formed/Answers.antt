use Rattle.std.proofs.Common.{ℕ, ◌+◌, inl, inr, List, [], ◌∷◌, ◌++◌, length, take, Some, None, ap, ap₂, append-nil, sym, ◌∙◌}
use Rattle.std.specs.Str.Lines.{lines}
use Rattle.std.proofs.lemmas.Iterator.Consumers.{YieldsList-at, YieldsList-end, YieldsList-from_enumerate, YieldsList-turn}
use Rattle.std.proofs.lemmas.Iterator.Splits.{YieldsList-from_lines}
use Rattle.cookie_netscape.specs.Files.{malformed_from, well_formed_rows}
use Rattle.cookie_laws.specs.Contents.{rows_in_order}
use Rattle.cookie_serde.specs.Selections.{built_from}
use Rattle.cookie_serde.proofs.NumberedLines.{all_lines}
use Rattle.cookie_serde.proofs.WellFormedLines.{at_line, has_line, next_line, on_err}
use Rattle.cookie_serde.proofs.netscape.well_formed.Goals as goal

pub loop-index-preserved-in-Continue-1 : goal.loop-index-preserved-in-Continue-1
loop-index-preserved-in-Continue-1 c =
    let road = YieldsList-at c.into_iter-index-iterator.ensures.into_iter_gives
    (YieldsList-from_enumerate (YieldsList-at c.enumerate-index-items.ensures.source
    (YieldsList-from_lines c.args.text.now c.lines.ensures.rest)) c.enumerate-index-items.ensures.count) in
    let turn = YieldsList-turn road c.loop-index.yielded _ c.loop-index.yielded_by _ _ (c.in-Some.index, c.in-Some.line) c.in-Some.is c.next.ensures.steps in
    let more = next_line c.args.text.now c.loop-index.yielded (c.in-Some.index, c.in-Some.line) c.in-Some.index c.in-Some.line.now (Some (Some c.in-Ok-Some.cookie)) turn.0 turn.1
    (c.in-Ok-Some.ensures.cookie ∙ ap Some c.in-Ok-Some.field-0-is) in
    record {
      rows = c.in_ok-take-in-Ok-Some.ensures.taken (well_formed_rows (take (length c.loop-index.yielded) (lines c.args.text.now))) c.loop-index.invariant.rows
          ∙ ap (built_from c.args.which) (sym more.0);
      numbers = c.loop-index.invariant.numbers ∙ sym (more.1 ∙ append-nil _);
    }

pub returns-in_err-take-in-Ok-Some-clause-memory : goal.returns-in_err-take-in-Ok-Some-clause-memory
returns-in_err-take-in-Ok-Some-clause-memory c =
    let road = YieldsList-at c.into_iter-index-iterator.ensures.into_iter_gives
    (YieldsList-from_enumerate (YieldsList-at c.enumerate-index-items.ensures.source
    (YieldsList-from_lines c.args.text.now c.lines.ensures.rest)) c.enumerate-index-items.ensures.count) in
    let turn = YieldsList-turn road c.loop-index.yielded _ c.loop-index.yielded_by _ _ (c.in-Some.index, c.in-Some.line) c.in-Some.is c.next.ensures.steps in
    on_err c.from_residual.result (has_line c.args.text.now (length c.loop-index.yielded) c.in-Some.index c.in-Some.line.now turn.0 turn.1
    (inl (c.in-Ok-Some.cookie, c.in-Ok-Some.ensures.cookie ∙ ap Some c.in-Ok-Some.field-0-is)))

pub loop-index-preserved-in-Ok-None : goal.loop-index-preserved-in-Ok-None
loop-index-preserved-in-Ok-None c =
    let road = YieldsList-at c.into_iter-index-iterator.ensures.into_iter_gives
    (YieldsList-from_enumerate (YieldsList-at c.enumerate-index-items.ensures.source
    (YieldsList-from_lines c.args.text.now c.lines.ensures.rest)) c.enumerate-index-items.ensures.count) in
    let turn = YieldsList-turn road c.loop-index.yielded _ c.loop-index.yielded_by _ _ (c.in-Some.index, c.in-Some.line) c.in-Some.is c.next.ensures.steps in
    let more = next_line c.args.text.now c.loop-index.yielded (c.in-Some.index, c.in-Some.line) c.in-Some.index c.in-Some.line.now (Some None) turn.0 turn.1
    (c.in-Ok-None.ensures.cookie ∙ ap Some c.in-Ok-None.field-0-is) in
    record {
      rows = c.loop-index.invariant.rows ∙ ap (built_from c.args.which) (sym (more.0 ∙ append-nil _));
      numbers = c.loop-index.invariant.numbers ∙ sym (more.1 ∙ append-nil _);
    }

pub loop-index-preserved : goal.loop-index-preserved
loop-index-preserved c =
    let bad = rw c.in-Err-BadLine.field-0-is at c.in-Err-BadLine.ensures.errors in
    let road = YieldsList-at c.into_iter-index-iterator.ensures.into_iter_gives
    (YieldsList-from_enumerate (YieldsList-at c.enumerate-index-items.ensures.source
    (YieldsList-from_lines c.args.text.now c.lines.ensures.rest)) c.enumerate-index-items.ensures.count) in
    let turn = YieldsList-turn road c.loop-index.yielded _ c.loop-index.yielded_by _ _ (c.in-Some.index, c.in-Some.line) c.in-Some.is c.next.ensures.steps in
    let more = next_line c.args.text.now c.loop-index.yielded (c.in-Some.index, c.in-Some.line) c.in-Some.index c.in-Some.line.now None turn.0 turn.1
    bad.1 in
    let pushed = rw c.in-Err-BadLine.field-0-is at c.in_ok-push-in-Err-BadLine.ensures.items in
    record {
      rows = c.loop-index.invariant.rows ∙ ap (built_from c.args.which) (sym (more.0 ∙ append-nil _));
      numbers = pushed ∙ ap₂ (λ (items : List ℕ) (n : ℕ). items ++ n ∷ []) c.loop-index.invariant.numbers bad.0 ∙ sym more.1;
    }

pub returns-in_err-push-in-Err-BadLine-clause-memory : goal.returns-in_err-push-in-Err-BadLine-clause-memory
returns-in_err-push-in-Err-BadLine-clause-memory c =
    let bad = rw c.in-Err-BadLine.field-0-is at c.in-Err-BadLine.ensures.errors in
    let road = YieldsList-at c.into_iter-index-iterator.ensures.into_iter_gives
    (YieldsList-from_enumerate (YieldsList-at c.enumerate-index-items.ensures.source
    (YieldsList-from_lines c.args.text.now c.lines.ensures.rest)) c.enumerate-index-items.ensures.count) in
    let turn = YieldsList-turn road c.loop-index.yielded _ c.loop-index.yielded_by _ _ (c.in-Some.index, c.in-Some.line) c.in-Some.is c.next.ensures.steps in
    on_err c.from_residual-in_err-push-in-Err-BadLine.result (has_line c.args.text.now (length c.loop-index.yielded) c.in-Some.index
    c.in-Some.line.now turn.0 turn.1 (inr bad.1))

pub returns-in-Err : goal.returns-in-Err
returns-in-Err c =
    let road = YieldsList-at c.into_iter-index-iterator.ensures.into_iter_gives
    (YieldsList-from_enumerate (YieldsList-at c.enumerate-index-items.ensures.source
    (YieldsList-from_lines c.args.text.now c.lines.ensures.rest)) c.enumerate-index-items.ensures.count) in
    let turn = YieldsList-turn road c.loop-index.yielded _ c.loop-index.yielded_by _ _ (c.in-Some.index, c.in-Some.line) c.in-Some.is c.next.ensures.steps in
    record {
      built = tt;
      suffixes = tt;
      limit = tt;
      memory = has_line c.args.text.now (length c.loop-index.yielded) c.in-Some.index c.in-Some.line.now turn.0 turn.1
          (at_line c.in-Err.field-0 (c.in-Some.index + 1) c.in-Some.line.now c.in-Err.ensures.errors);
    }

pub returns-clause-built : goal.returns-clause-built
returns-clause-built c =
    let road = YieldsList-at c.into_iter-index-iterator.ensures.into_iter_gives
    (YieldsList-from_enumerate (YieldsList-at c.enumerate-index-items.ensures.source
    (YieldsList-from_lines c.args.text.now c.lines.ensures.rest)) c.enumerate-index-items.ensures.count) in
    let seen = YieldsList-end road c.loop-index.yielded _ c.loop-index.yielded_by _ _ c.in-None.is c.next.ensures.steps in
    let all = all_lines (length c.loop-index.yielded) (lines c.args.text.now) seen.1 in (
      ap rows_in_order c.from_rows.ensures ∙ c.loop-index.invariant.rows
          ∙ ap (λ visited. built_from c.args.which (well_formed_rows visited)) all,
      c.loop-index.invariant.numbers ∙ ap (malformed_from 1) all,
    )
