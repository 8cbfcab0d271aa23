use Rattle.std.proofs.Common.{length, map-id, string_bytes, subst, sym, ◌∙◌, ◌<◌, arith}
use Rattle.std.specs.Char.{encode_utf8}
use Rattle.std.specs.Str.{chars}
use Rattle.std.proofs.lemmas.Iterator.{YieldsList-from_chars}
use Rattle.std.proofs.lemmas.Iterator.Consumers.{YieldsList-end, YieldsList-so_far, YieldsList-turn}
use Rattle.std.proofs.lemmas.Str.{NoCharPasses-append}
use Rattle.cookies.specs.Escapes.{is_escaped}
use Rattle.cookies.proofs.SafeTexts.{IsSafe, ellipsis, one_char, safe_chars}
use Rattle.cookies.proofs.ShownValues.{cut_value, whole_value}
use Rattle.cookies.proofs.table.value_cell.Goals as goal

pub returns-then-count-eq-SHOWN_CHARS-clause-value : goal.returns-then-count-eq-SHOWN_CHARS-clause-value
returns-then-count-eq-SHOWN_CHARS-clause-value c =
    let l = c.loop-c in
    let road = YieldsList-from_chars c.args.value.now c.utf8.value cc in
    let far = YieldsList-so_far road l.yielded _ l.yielded_by in
    let turn = YieldsList-turn road l.yielded _ l.yielded_by _ _ c.in-Some.c c.in-Some.is c.next.ensures.steps in
    let more : 40 < length (chars c.args.value.now) = omega (arith, turn.0, l.invariant.count, c.if-count-eq-SHOWN_CHARS.true) in
    cut_value c.args.value.now l.yielded _ _ (sym (map-id l.yielded) ∙ far)
    (sym l.invariant.count ∙ c.if-count-eq-SHOWN_CHARS.true) more l.invariant.shown c.in_ok-push.ensures.bytes

pub returns-then-count-eq-SHOWN_CHARS-clause-safe : goal.returns-then-count-eq-SHOWN_CHARS-clause-safe
returns-then-count-eq-SHOWN_CHARS-clause-safe c =
    let l = c.loop-c in
    subst IsSafe (sym c.in_ok-push.ensures.bytes)
    (NoCharPasses-append is_escaped (string_bytes l.cell) (encode_utf8 8230) (subst IsSafe (sym l.invariant.shown) (safe_chars l.yielded)) (one_char 8230 ellipsis))

pub returns-clause-value : goal.returns-clause-value
returns-clause-value c =
    let l = c.loop-c in
    let road = YieldsList-from_chars c.args.value.now c.utf8.value cc in
    let end = YieldsList-end road l.yielded _ l.yielded_by _ _ c.in-None.is c.next.ensures.steps in
    whole_value c.args.value.now l.yielded _ (sym (map-id l.yielded) ∙ end.0) (omega (arith, l.invariant.count, l.invariant.few))
    l.invariant.shown

pub returns-clause-safe : goal.returns-clause-safe
returns-clause-safe c = subst IsSafe (sym c.loop-c.invariant.shown) (safe_chars c.loop-c.yielded)
