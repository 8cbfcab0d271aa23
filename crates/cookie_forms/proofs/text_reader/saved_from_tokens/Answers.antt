use Rattle.std.proofs.Common.{◌≡◌, [], ◌∙◌, arith}
use Rattle.cookie_forms.proofs.ReadTexts.{on_err, saved_not_empty, some_text, whole_saved}
use Rattle.cookie_forms.proofs.text_reader.saved_from_tokens.Goals as goal

pub returns-in_err-saved-clause-memory : goal.returns-in_err-saved-clause-memory
returns-in_err-saved-clause-memory c =
    on_err c.from_residual-in_err-saved.result _ (some_text c.args.text.now (λ h. saved_not_empty _ c.in_err-saved.ensures.memory (c.in_ok-reader.ensures.ok ∙ h)))

pub returns-clause-saved : goal.returns-clause-saved
returns-clause-saved c =
    let last : c.read_saved.new.reader ≡ [] = grind arith in
    whole_saved c.in_ok-saved.saved c.args.text.now c.in_ok-reader.reader c.read_saved.new.reader c.in_ok-reader.ensures.ok last c.in_ok-saved.ensures.saved
