use Rattle.cookie_serde.proofs.LinesBack.{come_back}
use Rattle.cookie_serde.proofs.laws.lines_come_back.Goals as goal

pub returns : goal.returns
returns c rows texts all said =
    come_back c.survives_saving.ensures c.reads_back.ensures c.compact_texts_are_lines.ensures c.expiries_are_moments.ensures rows texts all said
