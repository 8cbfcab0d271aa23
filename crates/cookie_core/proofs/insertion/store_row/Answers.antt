use Rattle.std.proofs.Common.{◌∙◌, Ok, ap}
use Rattle.cookie_words.specs.Moments.{moment_of}
use Rattle.cookie_laws.specs.Rows.{key_of, row_of}
use Rattle.cookie_core.proofs.Insertions.{inserted_is_new}
use Rattle.cookie_core.proofs.insertion.store_row.Goals as goal

pub insert_within_limit-requires-clause-new : goal.insert_within_limit-requires-clause-new
insert_within_limit-requires-clause-new c =
    let (url, replied) = c.requires.action in
    inserted_is_new (row_of (key_of c.args.cookie) c.args.rows.now.rows) c.args.cookie url (moment_of c.args.now) (replied ∙ ap Ok c.in-Inserted.is)
