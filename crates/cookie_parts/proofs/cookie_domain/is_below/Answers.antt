use Rattle.std.proofs.Common.{◌-◌, ◌++◌, length, take, sym, ap, ◌∙◌, lit<}
use Rattle.std.proofs.lemmas.Str.Pattern.{ends_char}
use Rattle.cookie_parts.proofs.Hosts.{ends_in_dot, ends_otherwise}
use Rattle.cookie_parts.proofs.cookie_domain.is_below.Goals as goal

pub returns-in-Some : goal.returns-in-Some
returns-in-Some c =
    let domain = c.args.domain.now in
    let prefix = c.in-Some.prefix.now in
    let cut = c.in-Some.ensures.cases in
    let dot = ends_char 46 prefix c.ends_with.result c.ends_with.ensures.cases (lit< tt) in
    ends_in_dot c.args.host.now domain prefix c.ends_with.result
    (cut.1.1 ∙ ap (λ x. x ++ domain) (sym cut.2))
    (λ e. (take (length prefix - 1) prefix, dot.0 e), λ w. dot.1 w.0 w.1)

pub returns-in-None : goal.returns-in-None
returns-in-None c = ends_otherwise c.args.host.now c.args.domain.now c.in-None.ensures.cases
