use Rattle.std.proofs.Common.{◌==◌, sym, ◌∙◌, rules, tests}
use Rattle.std.proofs.lemmas.Iterator.{YieldsList-from_slice}
use Rattle.std.proofs.lemmas.Iterator.Search.{position_from_yields_List}
use Rattle.cookie_inputs.proofs.Positions.{before_first-all, before_first-at}
use Rattle.cookie_inputs.proofs.urls.before_first.Goals as goal

pub returns-in-Some : goal.returns-in-Some
returns-in-Some c =
    before_first-at (λ b. b == c.args.byte) c.args.text.now c.in-Some.end
    (sym (position_from_yields_List (λ b. b == c.args.byte) _ _ c.position.result c.position.ensures.ran
    (YieldsList-from_slice c.args.text.now c.iter.ensures.rest) (λ x b q k. search (rules, tests))) ∙ c.in-Some.is)

pub returns-in-None : goal.returns-in-None
returns-in-None c =
    before_first-all (λ b. b == c.args.byte) c.args.text.now
    (sym (position_from_yields_List (λ b. b == c.args.byte) _ _ c.position.result c.position.ensures.ran
    (YieldsList-from_slice c.args.text.now c.iter.ensures.rest) (λ x b q k. search (rules, tests))) ∙ c.in-None.is)
