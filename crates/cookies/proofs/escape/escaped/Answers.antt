use Rattle.std.proofs.Common.{flat_map, sym, ap, subst, ◌∙◌, map-id}
use Rattle.std.proofs.lemmas.Iterator.{YieldsList-from_chars}
use Rattle.std.proofs.lemmas.Iterator.Consumers.{YieldsList-end}
use Rattle.cookies.specs.Escapes.{escaped_char}
use Rattle.cookies.proofs.SafeTexts.{IsSafe, safe_chars}
use Rattle.cookies.proofs.escape.escaped.Goals as goal

pub returns-clause-value : goal.returns-clause-value
returns-clause-value c =
    let end = YieldsList-end (YieldsList-from_chars c.args.text.now c.utf8.text cc) c.loop-c.yielded _ c.loop-c.yielded_by _ _ c.in-None.is c.next.ensures.steps in
    c.loop-c.invariant ∙ ap (flat_map escaped_char) (sym (map-id c.loop-c.yielded) ∙ end.0)

pub returns-clause-safe : goal.returns-clause-safe
returns-clause-safe c = subst IsSafe (sym c.loop-c.invariant) (safe_chars c.loop-c.yielded)
