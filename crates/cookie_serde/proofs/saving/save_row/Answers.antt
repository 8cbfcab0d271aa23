use Rattle.std.proofs.Common.{sym, refl, inr}
use Rattle.std.proofs.lemmas.Fn.{says_at}
use Rattle.cookie_serde.proofs.saving.save_row.Goals as goal

pub returns-in-Ok-clause-whole : goal.returns-in-Ok-clause-whole
returns-in-Ok-clause-whole g c =
    (c.in_ok-text.text, says_at g.F.Fn c.text_of.ensures c.in_ok-text.was, rw (sym c.as_bytes.ensures.value) c.in-Ok.ensures.whole)

pub returns-clause-stopped : goal.returns-clause-stopped
returns-clause-stopped g c =
    let written_as = says_at g.F.Fn c.text_of.ensures c.in_ok-text.was in
    inr ((c.in_ok-text.text, written_as, rw (sym c.as_bytes.ensures.value) c.in-Err.ensures.part), refl, c.in-Err.ensures.count)
