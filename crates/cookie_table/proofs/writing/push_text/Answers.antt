use Rattle.cookie_table.proofs.ReadBack.{text_back}
use Rattle.cookie_table.proofs.writing.push_text.Goals as goal

pub returns-clause-back : goal.returns-clause-back
returns-clause-back c = text_back c.args.text.now c.utf8.text
