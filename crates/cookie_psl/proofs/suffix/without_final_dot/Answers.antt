use Rattle.std.proofs.Common.{ap, ◌∙◌, lit<}
use Rattle.std.proofs.lemmas.Str.Pattern.{strip_suffix_char}
use Rattle.cookie_psl.proofs.FinalDot.{without_final_dot-stripped}
use Rattle.cookie_psl.proofs.suffix.without_final_dot.Goals as goal

pub returns : goal.returns
returns c =
    let domain = c.args.domain in
    let stripped = c.strip_suffix.result in
    ap (λ x. x.now) c.unwrap_or.ensures
    ∙ without_final_dot-stripped domain stripped (strip_suffix_char 46 domain.now stripped c.strip_suffix.ensures.cases (lit< tt))
