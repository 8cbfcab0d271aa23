use Rattle.cookie_words.specs.Moments.{moment_of}
use Rattle.cookie_core.proofs.Inserted.{accepted_is_replied, memory_inserts, replied_by}
use Rattle.cookie_core.proofs.cookie_store.CookieStore.insert.Goals as goal

pub returns-in-Ok-clause-reply : goal.returns-in-Ok-clause-reply
returns-in-Ok-clause-reply c =
    let acceptance = c.in-Ok.acceptance in
    replied_by c.insert_accepted.result _ acceptance.action
    (accepted_is_replied c.args.url.now c.args.self.now c.args.cookie (moment_of c.args.now) acceptance c.in-Ok.ensures.accepted)
    c.insert_accepted.ensures.action c.insert_accepted.ensures.errors

pub returns-in-Ok-clause-memory : goal.returns-in-Ok-clause-memory
returns-in-Ok-clause-memory c =
    let acceptance = c.in-Ok.acceptance in
    memory_inserts c.insert_accepted.result _ acceptance.action
    (accepted_is_replied c.args.url.now c.args.self.now c.args.cookie (moment_of c.args.now) acceptance c.in-Ok.ensures.accepted)
    c.insert_accepted.ensures.errors
