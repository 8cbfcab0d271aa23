use Rattle.std.proofs.Common.{filter, inl, refl}
use Rattle.std.specs.Fn.{FnReturnsAt}
use Rattle.std.proofs.KnownBytes.{Keeps-refl}
use Rattle.std.proofs.lemmas.Fn.{says_at}
use Rattle.std.proofs.lemmas.Result.{err_from_is_err_and}
use Rattle.cookie_serde.specs.SavedLists.{SerializesCopies}
use Rattle.cookie_serde.specs.Selections.{is_selected}
use Rattle.cookie_serde.proofs.ListedRows.{list_begun, list_written}
use Rattle.cookie_serde.proofs.custom.save_copies.Goals as goal

pub returns-in_err-text-clause-stopped : goal.returns-in_err-text-clause-stopped
returns-in_err-text-clause-stopped g c =
    let refused = err_from_is_err_and c.from_residual-in_err-text.result c.from_residual-in_err-text.ensures.1 in
    rw (refused.1, refused.2)
    (inl (inl (c.in_ok-copies.copies, c.in_ok-copies.ensures.copies, says_at g.F.Fn c.text_of.ensures c.in_err-text.was), Keeps-refl _, refl))

pub returns-clause-whole : goal.returns-clause-whole
returns-clause-whole g c =
    let said = inl (c.in_ok-copies.copies, c.in_ok-copies.ensures.copies, says_at g.F.Fn c.text_of.ensures c.in_ok-text.was) in
    list_written (SerializesCopies (FnReturnsAt g.F.Fn c.args.text_of)) (filter (is_selected c.args.which) c.args.store.now.rows) c.in_ok-text.text said
    c.write_text.result _ _ c.write_text.ensures.whole

pub returns-clause-stopped : goal.returns-clause-stopped
returns-clause-stopped g c =
    let said = inl (c.in_ok-copies.copies, c.in_ok-copies.ensures.copies, says_at g.F.Fn c.text_of.ensures c.in_ok-text.was) in
    list_begun (SerializesCopies (FnReturnsAt g.F.Fn c.args.text_of)) (filter (is_selected c.args.which) c.args.store.now.rows) c.in_ok-text.text said
    c.write_text.result _ _ c.write_text.ensures.stopped
