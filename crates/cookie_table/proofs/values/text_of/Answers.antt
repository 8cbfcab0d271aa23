use Rattle.std.proofs.Common.{Some, ap, sym, ◌∙◌}
use Rattle.cookie_table.proofs.ReadBack.{no_text, text_back}
use Rattle.cookie_table.proofs.values.text_of.Goals as goal

pub returns-in-Ok : goal.returns-in-Ok
returns-in-Ok c = ap Some c.in-Ok.ensures.cases.0 ∙ sym (text_back c.args.bytes.now c.in-Ok.ensures.cases.1)

pub returns-in-Err : goal.returns-in-Err
returns-in-Err c = sym (no_text c.args.bytes.now c.in-Err.ensures.cases.0)
