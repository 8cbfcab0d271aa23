use Rattle.std.proofs.Common.{◌≡◌, Ok}
use Rattle.cookie_psl.specs.ListFormat.{rules_of}
use Rattle.cookie_psl.specs.Rules.{RuleList, SameRules}
use Rattle.cookie_psl.proofs.LinesRead.{texts}
use Rattle.cookie_psl.proofs.list.List.from_text.Given as goal

abbrev pub invariant-loop-index : goal.invariant-loop-index
invariant-loop-index l = (rules : RuleList) × (rules_of 1 (texts l.yielded) ≡ Ok rules) × SameRules l.list rules
