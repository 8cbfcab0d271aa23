use Rattle.std.proofs.Common.{◌≡◌, ◌∙◌, Ok, sym, ap, subst}
use Rattle.cookie_words.specs.Moments.{epoch}
use Rattle.cookie_laws.specs.Rows.{RowsInOrder}
use Rattle.cookie_serde.specs.Cuts.{cut_rows}
use Rattle.cookie_serde.specs.JsonLists.{json_cookies}
use Rattle.cookie_serde.specs.Saving.{line_text}
use Rattle.cookie_serde.specs.Selections.{built_from}
use Rattle.cookie_serde.specs.declared.which.Which.TheVariants.{All}
use Rattle.cookie_serde.proofs.BuiltAll.{built_all}
use Rattle.cookie_serde.proofs.CutRows.{cookies_in, rows_cut}
use Rattle.cookie_serde.proofs.laws.list_loads_again.Goals as goal

pub returns : goal.returns
returns c rows loaded written are all (text, written_as, appended) (whole, cookies, known, (valid, read_as), builds) =
    let same : line_text text ≡ whole = sym appended ∙ known in
    let reads = subst (λ t. json_cookies t ≡ Ok (cut_rows rows)) same (c.list_comes_back.ensures rows text all written_as) in
    ap (λ (kept : RowsInOrder). kept.rows) (builds ∙ ap (built_from All) (ap cookies_in (sym read_as ∙ reads)) ∙ built_all (cut_rows rows)) ∙ c.rebuilt.ensures (cut_rows rows) epoch (rows_cut rows are)
