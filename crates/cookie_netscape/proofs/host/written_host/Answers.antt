use Rattle.std.proofs.Common.{sym, ◌∙◌}
use Rattle.std.proofs.lemmas.Bool.{cond-false, cond-true}
use Rattle.cookie_netscape.proofs.HostEnds.{no_brackets, with_brackets}
use Rattle.cookie_netscape.proofs.host.written_host.Goals as goal

pub returns-in_default : goal.returns-in_default
returns-in_default c = sym (no_brackets c.args.host.now (rw c.in_default.is at c.without_brackets.ensures))

pub returns-then-is_bare_address : goal.returns-then-is_bare_address
returns-then-is_bare_address c =
    sym (with_brackets c.args.host.now c.in-Some.address.now c.in-Some.ensures
    ∙ cond-true _ _ _ (sym c.is_bare_address.ensures ∙ c.if-is_bare_address.true))

pub returns-else-is_bare_address : goal.returns-else-is_bare_address
returns-else-is_bare_address c =
    sym (with_brackets c.args.host.now c.in-Some.address.now c.in-Some.ensures
    ∙ cond-false _ _ _ (sym c.is_bare_address.ensures ∙ c.if-is_bare_address.false))
