use Rattle.std.proofs.Common.{◌+◌, [], ◌∷◌, ap, sym, ◌∙◌, lit<}
use Rattle.std.proofs.lemmas.Iterator.Consumers.{YieldsList-at, YieldsList-end, YieldsList-from_enumerate, YieldsList-so_far, YieldsList-turn}
use Rattle.std.proofs.lemmas.Iterator.Splits.{YieldsList-from_str_split}
use Rattle.std.proofs.lemmas.List.{map-append}
use Rattle.std.proofs.lemmas.Result.{err_from_is_err_and}
use Rattle.cookie_words.specs.Strings.{pieces}
use Rattle.cookie_psl.specs.ListFormat.{line_rule, rules_from, rules_of}
use Rattle.cookie_psl.proofs.LinesRead.{then_rule, rules_of-push, bad_next, same_with_rule, not_added, texts, all_texts}
use Rattle.cookie_psl.proofs.list.List.from_text.Goals as goal

pub loop-index-preserved : goal.loop-index-preserved
loop-index-preserved c =
    let (rules, so_far, same) = c.loop-index.invariant in
    let (read, good, added) = c.in_ok-add_line.ensures in (
      then_rule rules read,
      ap (rules_of 1) (map-append (λ line. line.1.now) c.loop-index.yielded ((c.in-Some.index, c.in-Some.line) ∷ []))
          ∙ rules_of-push 1 (texts c.loop-index.yielded) c.in-Some.line.now rules read so_far good,
      λ test. added test ∙ same_with_rule c.loop-index.list rules read same test,
    )

pub returns-in_err-add_line : goal.returns-in_err-add_line
returns-in_err-add_line c =
    let (rules, so_far, same) = c.loop-index.invariant in
    let road = YieldsList-at c.into_iter-index-iterator.ensures.into_iter_gives
    (YieldsList-from_enumerate (YieldsList-at c.enumerate-index-items.ensures.source
    (YieldsList-from_str_split 10 c.args.text.now (lit< tt) c.split.ensures.text c.split.ensures.has_more c.split.ensures.pattern)) c.enumerate-index-items.ensures.count) in
    let walked = YieldsList-so_far road c.loop-index.yielded _ c.loop-index.yielded_by in
    let step = YieldsList-turn road c.loop-index.yielded _ c.loop-index.yielded_by _ _ (c.in-Some.index, c.in-Some.line) c.in-Some.is c.next.ensures.steps in
    let fault = err_from_is_err_and c.from_residual.result c.from_residual.ensures.1 in
    rw (fault.1, fault.2)
    (not_added c.in_err-add_line.field-0.0 (line_rule c.in-Some.line.now) (c.in-Some.index + 1) c.loop-index.list c.add_line.new.self (rules_from c.args.text.now) c.in_err-add_line.ensures
    (bad_next c.loop-index.yielded c.in-Some.index c.in-Some.line.now (pieces 10 c.args.text.now) rules walked step.0 step.1 so_far))

pub returns : goal.returns
returns c =
    let (rules, so_far, same) = c.loop-index.invariant in
    let road = YieldsList-at c.into_iter-index-iterator.ensures.into_iter_gives
    (YieldsList-from_enumerate (YieldsList-at c.enumerate-index-items.ensures.source
    (YieldsList-from_str_split 10 c.args.text.now (lit< tt) c.split.ensures.text c.split.ensures.has_more c.split.ensures.pattern)) c.enumerate-index-items.ensures.count) in
    let all = YieldsList-end road c.loop-index.yielded _ c.loop-index.yielded_by _ _ c.in-None.is c.next.ensures.steps in
    (rules, sym (ap (rules_of 1) (all_texts c.loop-index.yielded (pieces 10 c.args.text.now) all.0)) ∙ so_far, same)
