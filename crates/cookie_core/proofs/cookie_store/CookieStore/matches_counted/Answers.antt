use Rattle.std.proofs.Common.{rules}
use Rattle.cookie_core.proofs.cookie_store.CookieStore.matches_counted.Goals as goal

pub returns-clause-paths : goal.returns-clause-paths
returns-clause-paths c = rw (← c.self.view_is) (search rules)

pub returns-clause-every_domain : goal.returns-clause-every_domain
returns-clause-every_domain c = rw (← c.self.view_is) (search rules)
