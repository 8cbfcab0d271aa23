use Rattle.cookie_serde.proofs.CutRows.{forms_end, said_comes_back}
use Rattle.cookie_serde.proofs.laws.list_comes_back.Goals as goal

pub returns : goal.returns
returns c rows text all written_as =
    said_comes_back c.survives_saving.ensures c.line_feeds_are_blank.ensures rows text all (λ tree is. c.list_reads_back.ensures _ tree (forms_end c.expiries_are_moments.ensures rows all) is) written_as
