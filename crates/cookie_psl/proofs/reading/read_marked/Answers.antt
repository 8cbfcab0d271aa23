use Rattle.std.proofs.Common.{Some, None, lit<}
use Rattle.std.proofs.lemmas.Str.Pattern.{strip_prefix_char}
use Rattle.cookie_psl.proofs.LineMarks.{marked_rule-exception, marked_rule-rule}
use Rattle.cookie_psl.proofs.reading.read_marked.Goals as goal

pub returns-in-Some : goal.returns-in-Some
returns-in-Some c =
    rw (marked_rule-exception c.args.part.now c.in-Some.text.now (strip_prefix_char 33 c.args.part.now (Some c.in-Some.text) c.in-Some.ensures.cases (lit< tt)))
    c.read_rule.ensures

pub returns-in-None : goal.returns-in-None
returns-in-None c =
    rw (marked_rule-rule c.args.part.now (strip_prefix_char 33 c.args.part.now None c.in-None.ensures.cases (lit< tt)))
    c.read_rule-in-None.ensures
