use Rattle.cookie_store_c.proofs.UnsavedStores.{strictly_unsaved}
use Rattle.cookie_store_c.proofs.saving.written.Goals as goal

pub returns-in-Err-to_text_as-clause-errors : goal.returns-in-Err-to_text_as-clause-errors
returns-in-Err-to_text_as-clause-errors c =
    strictly_unsaved c.args.options c.args.store.now.rows c.in-Err-to_text_as.error c.of_format_error.result c.if-options.false
    c.of_format_error.ensures (rw c.in-Err-to_text_as.is at c.to_text_as.ensures)
