use Rattle.std.proofs.Common.{◌≡◌, ◌∙◌, Ok, sym, ap, subst}
use Rattle.cookie_words.specs.Moments.{epoch}
use Rattle.cookie_laws.specs.Rows.{RowsInOrder}
use Rattle.cookie_serde.specs.Cuts.{cut_rows}
use Rattle.cookie_serde.specs.RonLists.{RonCookies}
use Rattle.cookie_serde.specs.Saving.{line_text}
use Rattle.cookie_serde.specs.SavedForms.{read_cookies}
use Rattle.cookie_serde.specs.Selections.{built_from}
use Rattle.cookie_serde.specs.declared.which.Which.TheVariants.{All}
use Rattle.cookie_serde.proofs.BuiltAll.{built_all}
use Rattle.cookie_serde.proofs.CutRows.{cookies_in, rows_cut}
use Rattle.cookie_serde.proofs.laws.ron_list_loads_again.Goals as goal

pub returns : goal.returns
returns c rows loaded written are all (text, written_as, appended) (whole, cookies, known, (valid, (expected, reported, created)), builds) =
    let same : line_text text ≡ whole = sym appended ∙ known in
    let (read, reads, are_cut) = subst (λ t. RonCookies t (Ok (cut_rows rows))) same (c.ron_list_comes_back.ensures rows text all written_as) in
    let one = created ∙ ap read_cookies (c.results_are_unique.ensures whole expected read reported reads) ∙ sym are_cut in
    ap (λ (kept : RowsInOrder). kept.rows) (builds ∙ ap (built_from All) (ap cookies_in one) ∙ built_all (cut_rows rows)) ∙ c.rebuilt.ensures (cut_rows rows) epoch (rows_cut rows are)
