use Rattle.std.proofs.Common.{◌∙◌, ap, subst}
use Rattle.std.specs.Str.Lines.{lines}
use Rattle.cookie_words.specs.Moments.{epoch}
use Rattle.cookie_laws.specs.Rows.{RowsInOrder}
use Rattle.cookie_serde.specs.Cuts.{cut_rows}
use Rattle.cookie_serde.specs.JsonLines.{JsonParsesTo}
use Rattle.cookie_serde.specs.Loading.{AreCookies}
use Rattle.cookie_serde.specs.Selections.{built_from}
use Rattle.cookie_serde.specs.declared.which.Which.TheVariants.{All}
use Rattle.cookie_serde.proofs.BuiltAll.{built_all}
use Rattle.cookie_serde.proofs.CutRows.{rows_cut}
use Rattle.cookie_serde.proofs.LinesBack.{made_as_read}
use Rattle.cookie_serde.proofs.laws.lines_load_again.Goals as goal

pub returns : goal.returns
returns c rows loaded written are all (texts, said, appended) (read, cookies, created, builds, known) =
    let reported = subst (λ text. AreCookies JsonParsesTo text cookies) (known ∙ ap lines appended) created in
    ap (λ (kept : RowsInOrder). kept.rows)
    (builds ∙ ap (built_from All) (made_as_read _ cookies (cut_rows rows) reported (c.lines_come_back.ensures rows texts all said)) ∙ built_all (cut_rows rows))
    ∙ c.rebuilt.ensures (cut_rows rows) epoch (rows_cut rows are)
