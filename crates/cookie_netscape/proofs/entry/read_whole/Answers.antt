use Rattle.std.proofs.Common.{sym, ap, ◌∙◌, arith, Some}
use Rattle.cookie_netscape.proofs.SecondsRead.{seconds_read, whole_of_digits}
use Rattle.cookie_netscape.proofs.entry.read_whole.Goals as goal

pub returns : goal.returns
returns c =
    let digits = c.args.digits.now in
    let some = sym c.is_empty.ensures ∙ c.if-is_empty.false in
    let all = sym c.is_digits.ensures ∙ c.if-not-is_digits.false in
    rw (whole_of_digits digits some all)
    (ap Some (c.unwrap_or.ensures ∙ seconds_read digits c.parse.result (grind (arith, some)) all c.parse.ensures.value.0))
