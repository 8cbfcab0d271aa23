use Rattle.std.proofs.Common.{ap, ◌∙◌, arith, rules}
use Rattle.cookie_forms.proofs.OnlyMember.{not_one, one, of_one}
use Rattle.cookie_forms.proofs.value_reader.only_text.Goals as goal

pub returns-then-len-ne1 : goal.returns-then-len-ne1
returns-then-len-ne1 c = not_one _ (λ h. omega arith)

pub returns-in_err-as_str : goal.returns-in_err-as_str
returns-in_err-as_str c =
    let at_first = one _ (omega arith) ∙ ap of_one c.in_ok-tag.ensures.first in
    rw at_first (search rules)

pub returns : goal.returns
returns c =
    let at_first = one _ (omega arith) ∙ ap of_one c.in_ok-tag.ensures.first in
    rw at_first (search rules)
