use Rattle.std.proofs.Common.{◌++◌, string_bytes, flat_map, sym, ap, ◌∙◌, map-id}
use Rattle.std.proofs.lemmas.Iterator.{YieldsList-from_chars}
use Rattle.std.proofs.lemmas.Iterator.Consumers.{YieldsList-end}
use Rattle.cookie_ron.specs.Printed.{printed_char}
use Rattle.cookie_ron.proofs.printing.push_chars.Goals as goal

pub returns : goal.returns
returns c =
    let end = YieldsList-end (YieldsList-from_chars c.args.content.now c.utf8.content cc) c.loop-c.yielded _ c.loop-c.yielded_by _ _ c.in-None.is c.next.ensures.steps in
    c.loop-c.invariant ∙ ap (λ cs. string_bytes c.args.text.now ++ flat_map printed_char cs) (sym (map-id c.loop-c.yielded) ∙ end.0)
