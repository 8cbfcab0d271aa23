use Rattle.std.proofs.Common.{min, option_map, ap, lit<, sym, Some, ◌∙◌}
use Rattle.std.proofs.lemmas.Str.Pattern.{split_once_first}
use Rattle.cookie_netscape.proofs.SecondsRead.{seconds_if_whole, seconds_of_parts}
use Rattle.cookie_netscape.proofs.entry.read_seconds.Goals as goal

pub returns-then-is_some : goal.returns-then-is_some
returns-then-is_some c =
    seconds_if_whole c.args.field.now 18_446_744_073_709_551_615 c.read_whole-whole_number.result c.read_whole-whole_number.ensures
    (sym c.is_some.ensures ∙ c.if-is_some.true)

pub returns : goal.returns
returns c =
    let whole = c.in_ok-whole.whole in
    let fraction = c.in_ok-whole.fraction in
    let parts = split_once_first 46 c.args.field.now (Some (whole, fraction)) c.in_ok-whole.ensures.cases (lit< tt) in
    c.read_whole.ensures
    ∙ ap (option_map (λ n. min n 18_446_744_073_709_551_615))
    (sym (seconds_of_parts c.args.field.now whole.now fraction.now parts.1 parts.2 (sym c.is_digits.ensures ∙ c.if-not-is_digits.false)))
