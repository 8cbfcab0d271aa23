use Rattle.std.proofs.Common.{sym}
use Rattle.cookie_script.proofs.Limits.{limit_none, limit_some}
use Rattle.cookie_script.proofs.arguments.limit_of.Goals as goal

pub returns-in-Ok-clause-value : goal.returns-in-Ok-clause-value
returns-in-Ok-clause-value c = limit_some c.args.word.now (sym c.if-not-is_digits.ensures) c.in-Ok.limit c.parse.result c.in-Ok.is c.parse.ensures.value.0 c.if-limit-gt0.true

pub returns-in_default-2-clause-value : goal.returns-in_default-2-clause-value
returns-in_default-2-clause-value c = limit_none c.args.word.now (sym c.if-not-is_digits.ensures) c.in_default.field-0 c.parse.result c.in_default.is c.parse.ensures.value.0
