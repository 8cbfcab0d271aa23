use Rattle.std.proofs.Common.{◌≡◌, ◌≤◌, ◌++◌, [], length, take, drop, sym, ap, ◌∙◌, subst, arith}
use Rattle.std.proofs.lemmas.List.{append-nil, take-append-drop}
use Rattle.cookie_psl.specs.Rules.{last_labels, without_final_dot}
use Rattle.cookie_psl.proofs.FinalDot.{drop-without_final_dot}
use Rattle.cookie_psl.proofs.suffix.from_labels.Goals as goal

pub returns-clause-value : goal.returns-clause-value
returns-clause-value c =
    let domain = c.args.domain.now in
    let start = c.labels_start-start.result in
    let labels = subst (λ xs. drop start xs ≡ last_labels c.args.count xs) c.without_final_dot.ensures c.labels_start-start.ensures.labels in
    let within : start ≤ length (without_final_dot domain) = omega (arith, ap length c.without_final_dot.ensures, c.labels_start-start.ensures.cut.0) in
    c.range_from.ensures.value
    ∙ drop-without_final_dot domain start within
    ∙ ap (λ xs. xs ++ drop (length (without_final_dot domain)) domain) labels

pub returns-clause-slice : goal.returns-clause-slice
returns-clause-slice c =
    let domain = c.args.domain.now in
    let start = c.labels_start-start.result in
    let rest = append-nil c.range_from.result.now ∙ c.range_from.ensures.value in
    (take start domain, [], sym (ap (λ xs. take start domain ++ xs) rest ∙ take-append-drop start domain))
