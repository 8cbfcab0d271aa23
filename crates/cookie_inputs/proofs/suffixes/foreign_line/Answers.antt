use Rattle.std.proofs.Common.{◌+◌, option_map, sym, ap, ◌∙◌, rules, tests}
use Rattle.std.proofs.lemmas.Iterator.Adapters.{position_from-zero}
use Rattle.std.proofs.lemmas.Iterator.Search.{position_from_yields_List}
use Rattle.cookie_words.specs.Strings.{pieces}
use Rattle.cookie_inputs.specs.Suffixes.{is_foreign}
use Rattle.cookie_inputs.proofs.FileRules.{counted_from, yields_lines}
use Rattle.cookie_inputs.proofs.suffixes.foreign_line.Goals as goal

pub returns-in-Some : goal.returns-in-Some
returns-in-Some c =
    let lines = pieces 10 c.args.text.now in
    ap (option_map (λ at. at + 1))
    (sym c.in-Some.is ∙ position_from_yields_List is_foreign _ _ c.position.result c.position.ensures.ran
    (yields_lines c.args.text.now c.split.ensures.text c.split.ensures.has_more c.split.ensures.pattern)
    (λ x b q k. search (rules, tests)) ∙ position_from-zero is_foreign lines)
    ∙ counted_from is_foreign 0 lines

pub returns-in-None : goal.returns-in-None
returns-in-None c =
    let lines = pieces 10 c.args.text.now in
    ap (option_map (λ at. at + 1))
    (sym c.in-None.is ∙ position_from_yields_List is_foreign _ _ c.position.result c.position.ensures.ran
    (yields_lines c.args.text.now c.split.ensures.text c.split.ensures.has_more c.split.ensures.pattern)
    (λ x b q k. search (rules, tests)) ∙ position_from-zero is_foreign lines)
    ∙ counted_from is_foreign 0 lines
