use Rattle.std.proofs.Common.{◌≡◌, [], ◌∙◌, arith}
use Rattle.cookie_forms.proofs.ReadTexts.{list_not_empty, on_err, some_text, whole_list}
use Rattle.cookie_forms.proofs.text_reader.list_from_tokens.Goals as goal

pub returns-in_err-list-clause-memory : goal.returns-in_err-list-clause-memory
returns-in_err-list-clause-memory c =
    on_err c.from_residual-in_err-list.result _ (some_text c.args.text.now (λ h. list_not_empty _ c.in_err-list.ensures.memory (c.in_ok-reader.ensures.ok ∙ h)))

pub returns-clause-saved : goal.returns-clause-saved
returns-clause-saved c =
    let last : c.read_list.new.reader ≡ [] = grind arith in
    whole_list c.in_ok-list.list c.args.text.now c.in_ok-reader.reader c.read_list.new.reader c.in_ok-reader.ensures.ok last c.in_ok-list.ensures.saved
