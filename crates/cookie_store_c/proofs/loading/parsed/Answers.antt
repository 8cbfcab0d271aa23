use Rattle.cookie_store_c.proofs.LoadOutcomes.{strictly_fails, strictly_loads}
use Rattle.cookie_store_c.proofs.loading.parsed.Goals as goal

pub returns-in-Ok-from_text_as-clause-loaded : goal.returns-in-Ok-from_text_as-clause-loaded
returns-in-Ok-from_text_as-clause-loaded c =
    strictly_loads c.args.options c.args.text.now c.in-Ok-from_text_as.store c.new.result.items c.if-options.false c.new.ensures.items
    c.in-Ok-from_text_as.ensures.built c.in-Ok-from_text_as.ensures.suffixes c.in-Ok-from_text_as.ensures.limit

pub returns-in-Err-from_text_as-clause-rejected : goal.returns-in-Err-from_text_as-clause-rejected
returns-in-Err-from_text_as-clause-rejected c =
    strictly_fails c.args.options c.args.text.now c.in-Err-from_text_as.error c.rejection_of.result.status c.rejection_of.result.line
    c.if-options.false c.rejection_of.ensures.status c.rejection_of.ensures.line c.in-Err-from_text_as.ensures.failed
