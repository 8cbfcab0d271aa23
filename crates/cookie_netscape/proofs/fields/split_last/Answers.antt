use Rattle.std.proofs.Common.{sym, ◌∙◌}
use Rattle.cookie_netscape.proofs.Tabs.{last_two, too_many}
use Rattle.cookie_netscape.proofs.fields.split_last.Goals as goal

pub returns-then-contains : goal.returns-then-contains
returns-then-contains c =
    too_many c.args.text.now c.in-Some.name.now c.in-Some.value.now c.in-Some.ensures
    (rw c.as_bytes.ensures.value at (sym c.contains.ensures.value ∙ c.if-contains.true))

pub returns : goal.returns
returns c =
    last_two c.args.text.now c.in-Some.name.now c.in-Some.value.now c.in-Some.ensures
    (rw c.as_bytes.ensures.value at (sym c.contains.ensures.value ∙ c.if-contains.false))
