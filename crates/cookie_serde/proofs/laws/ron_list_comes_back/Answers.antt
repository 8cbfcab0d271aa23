use Rattle.cookie_serde.proofs.RonBack.{ron_back}
use Rattle.cookie_serde.proofs.laws.ron_list_comes_back.Goals as goal

pub returns : goal.returns
returns c rows text all written_as = ron_back c.survives_saving.ensures c.printed_reads_back.ensures.line rows text all written_as
