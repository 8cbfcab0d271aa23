use Rattle.std.proofs.Common.{sym, ◌∙◌, rules, tests}
use Rattle.std.proofs.lemmas.Iterator.{YieldsList-from_slice}
use Rattle.std.proofs.lemmas.Iterator.Search.{position_from_yields_List}
use Rattle.cookie_inputs.specs.Urls.{ends_authority}
use Rattle.cookie_inputs.proofs.Positions.{before_first-all, before_first-at}
use Rattle.cookie_inputs.proofs.urls.authority_in.Goals as goal

pub returns-in-Some : goal.returns-in-Some
returns-in-Some c =
    before_first-at ends_authority c.args.rest.now c.in-Some.end
    (sym (position_from_yields_List ends_authority _ _ c.position.result c.position.ensures.ran
    (YieldsList-from_slice c.args.rest.now c.iter.ensures.rest) (λ x b q k. search (rules, tests))) ∙ c.in-Some.is)

pub returns-in-None : goal.returns-in-None
returns-in-None c =
    before_first-all ends_authority c.args.rest.now
    (sym (position_from_yields_List ends_authority _ _ c.position.result c.position.ensures.ran
    (YieldsList-from_slice c.args.rest.now c.iter.ensures.rest) (λ x b q k. search (rules, tests))) ∙ c.in-None.is)
