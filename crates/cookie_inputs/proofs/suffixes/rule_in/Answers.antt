use Rattle.std.proofs.Common.{rules, ◌∙◌}
use Rattle.std.specs.Char.{is_whitespace}
use Rattle.std.proofs.lemmas.List.Sorted.{answers_always}
use Rattle.cookie_psl.proofs.FirstSpace.{read_part-none, read_part-some}
use Rattle.cookie_inputs.proofs.suffixes.rule_in.Goals as goal

pub returns-in-Some : goal.returns-in-Some
returns-in-Some c =
    let found = c.in-Some.ensures.cases in
    found.3 ∙ read_part-some c.args.line.now found.0 found.1 c.utf8.line (found.2 is_whitespace (answers_always _ _ _ (λ f a r g k. search rules)))

pub returns-in-None : goal.returns-in-None
returns-in-None c =
    read_part-none c.args.line.now c.utf8.line (c.in-None.ensures.cases is_whitespace (answers_always _ _ _ (λ f a r g k. search rules)))
