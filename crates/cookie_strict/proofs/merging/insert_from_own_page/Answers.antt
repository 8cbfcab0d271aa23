use Rattle.std.proofs.Common.{◌∙◌, sym}
use Rattle.cookie_words.specs.Moments.{moment_of}
use Rattle.cookie_strict.proofs.Merged.{stored_one}
use Rattle.cookie_strict.proofs.merging.insert_from_own_page.Goals as goal

pub returns-in-Ok-clause-stored : goal.returns-in-Ok-clause-stored
returns-in-Ok-clause-stored c =
    stored_one (moment_of c.args.now) c.args.cookie.now c.in_ok-clone.field-0 c.in-Some.page c.in-Ok.field-0 c.args.store.now c.in_ok-clone.ensures.cases
    (sym c.in_ok-page.ensures ∙ c.in-Some.is) c.in-Ok.ensures.reply
