use Rattle.std.proofs.Common.{subst, ap, ◌∙◌}
use Rattle.cookie_words.specs.Strings.{pieces}
use Rattle.cookie_psl.specs.ListFormat.{rules_from}
use Rattle.cookie_inputs.specs.Suffixes.{unless_foreign, ParsesLines}
use Rattle.cookie_inputs.proofs.FileRules.{with_foreign}
use Rattle.cookie_inputs.proofs.suffixes.parse_lines.Goals as goal

pub returns : goal.returns
returns c =
    let text = c.args.text.now in
    subst (ParsesLines c.unless_foreign.result)
    (ap (λ found. unless_foreign found (rules_from text)) c.foreign_line.ensures ∙ with_foreign 1 (pieces 10 text))
    (c.unless_foreign.ensures (rules_from text) c.from_text.ensures)
