use Rattle.std.proofs.Common.{[], ◌∷◌, length, map, Some, ap, sym, ◌∙◌, lit<}
use Rattle.std.proofs.lemmas.Iterator.Consumers.{YieldsList-at, YieldsList-end, YieldsList-turn}
use Rattle.std.proofs.lemmas.Iterator.Splits.{YieldsList-from_str_split}
use Rattle.std.proofs.lemmas.List.{map-append}
use Rattle.std.proofs.lemmas.Result.{err_from_is_err_and}
use Rattle.cookie_words.specs.Strings.{pieces}
use Rattle.cookie_psl.specs.ParsedRules.{label_text, label_texts}
use Rattle.cookie_psl.specs.ListFormat.{label_from, labels_from}
use Rattle.cookie_psl.proofs.LabelsRead.{labels_from-bad, labels_from-push, ParsesOrMemory-err}
use Rattle.cookie_psl.proofs.reading.read_labels.Goals as goal

pub returns-in_err-read_label : goal.returns-in_err-read_label
returns-in_err-read_label c =
    let road = YieldsList-at c.into_iter-label-iterator.ensures.into_iter_gives
    (YieldsList-from_str_split 46 c.args.text.now (lit< tt) c.split-label-items.ensures.text c.split-label-items.ensures.has_more c.split-label-items.ensures.pattern) in
    let step = YieldsList-turn road c.loop-label.yielded _ c.loop-label.yielded_by _ _ c.in-Some.label c.in-Some.is c.next.ensures.steps in
    let fault = err_from_is_err_and c.from_residual.result c.from_residual.ensures.1 in
    rw (fault.1, fault.2)
    (ParsesOrMemory-err label_text label_texts c.in_err-read_label.field-0.0 (label_from c.in-Some.label.now) (labels_from (pieces 46 c.args.text.now))
    c.in_err-read_label.ensures (labels_from-bad (pieces 46 c.args.text.now) (length c.loop-label.yielded) c.in-Some.label.now step.0 step.1))

pub loop-label-preserved : goal.loop-label-preserved
loop-label-preserved c =
    ap labels_from (map-append (λ x. x.now) c.loop-label.yielded (c.in-Some.label ∷ []))
    ∙ labels_from-push (map (λ x. x.now) c.loop-label.yielded) c.in-Some.label.now (label_texts c.loop-label.labels) _ c.loop-label.invariant c.in_ok-read_label.ensures
    ∙ ap Some (sym (map-append label_text c.loop-label.labels.items (c.in_ok-read_label.field-0 ∷ []))
    ∙ ap (map label_text) (sym c.in_ok-push.ensures.items))

pub returns : goal.returns
returns c =
    let road = YieldsList-at c.into_iter-label-iterator.ensures.into_iter_gives
    (YieldsList-from_str_split 46 c.args.text.now (lit< tt) c.split-label-items.ensures.text c.split-label-items.ensures.has_more c.split-label-items.ensures.pattern) in
    ap labels_from (sym (YieldsList-end road c.loop-label.yielded _ c.loop-label.yielded_by _ _ c.in-None.is c.next.ensures.steps).0) ∙ c.loop-label.invariant
