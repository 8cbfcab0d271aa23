use Rattle.std.proofs.Common.{◌∙◌, ◌++◌, ap, flat_map, sym}
use Rattle.cookie_laws.specs.Header.{later_pair, pair_text}
use Rattle.cookie_core.proofs.CookieStrings.{string_parts}
use Rattle.cookie_core.proofs.header.cookie_string.Goals as goal

pub returns-clause-text : goal.returns-clause-text
returns-clause-text c =
    let later = flat_map (λ x. later_pair x.now) c.in-Some.others.now in
    let first = pair_text c.in-Some.first.now.now in
    c.in_ok-push_later.ensures
    ∙ ap (λ text. text ++ later) (c.in_ok-push_pair.ensures ∙ ap (λ text. text ++ first) c.in_ok-text.ensures.bytes)
    ∙ sym (string_parts (λ x. x.now) c.args.cookies.now _ _ c.in-Some.ensures.cases.0)
