use Rattle.cookie_raw.specs.SetCookie.{reading}
use Rattle.cookie_core.proofs.EarlyErrors.{memory_is_not_early}
use Rattle.cookie_core.proofs.cookie_store.CookieStore.parse.Goals as goal

pub returns-clause-memory : goal.returns-clause-memory
returns-clause-memory c =
    memory_is_not_early (reading c.args.text.now) c.args.url.now c.insert_created.result
    (λ r is. c.insert_created.ensures.creation_error r (c.parse_owned-created.ensures.early r is))
