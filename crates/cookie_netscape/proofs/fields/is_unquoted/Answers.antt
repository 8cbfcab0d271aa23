use Rattle.std.proofs.Common.{◌≡◌, ◌&&◌, true, not, codes, nat_eq, sym, ap, ◌∙◌}
use Rattle.std.specs.List.{ends_with, starts_with}
use Rattle.std.proofs.lemmas.Str.Pattern.{ends_text, starts_text}
use Rattle.cookie_netscape.proofs.fields.is_unquoted.Goals as goal

pub returns-then-not-starts_with : goal.returns-then-not-starts_with
returns-then-not-starts_with c =
    let text = c.args.text.now in
    let ends = ends_text c.ends_with.result (codes "\"") text c.ends_with.ensures.cases in
    let starts : not (starts_with nat_eq text (codes "\"")) ≡ true =
    ap not (sym (starts_text c.starts_with.result (codes "\"") text c.starts_with.ensures.cases) ∙ c.if-not-starts_with.true) in
    ap not ends ∙ sym (ap (λ first. first && not (ends_with nat_eq text (codes "\""))) starts)
