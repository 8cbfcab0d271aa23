use Rattle.std.proofs.Common.{rules, tests}
use Rattle.std.proofs.lemmas.Iterator.Search.{any_from_yields_List}
use Rattle.cookie_inputs.specs.Suffixes.{has_rule}
use Rattle.cookie_inputs.proofs.FileRules.{yields_lines}
use Rattle.cookie_inputs.proofs.suffixes.has_rules.Goals as goal

pub returns : goal.returns
returns c =
    any_from_yields_List has_rule _ _ _ c.any.ensures.ran
    (yields_lines c.args.text.now c.split.ensures.text c.split.ensures.has_more c.split.ensures.pattern)
    (λ x b q k. search (rules, tests))
