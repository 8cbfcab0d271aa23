use Rattle.std.proofs.Common.{None, subst, rules}
use Rattle.cookie_laws.specs.Contents.{HasCreationOrder, contents_of}
use Rattle.cookie_rows.specs.Stored.{domains_in}
use Rattle.cookie_rows.proofs.Created.{created_once}
use Rattle.cookie_rows.proofs.rows.Rows.given_counted.Goals as goal

pub returns-clause-has_creation_order : goal.returns-clause-has_creation_order
returns-clause-has_creation_order c =
    subst (λ kept. HasCreationOrder (contents_of kept None None)) c.self.view_is
    (created_once c.self.inside.created (domains_in c.self.inside.groups) c.self.invariant.0)

pub returns-clause-paths : goal.returns-clause-paths
returns-clause-paths c = rw (← c.self.view_is) (search rules)

pub returns-clause-every_domain : goal.returns-clause-every_domain
returns-clause-every_domain c = rw (← c.self.view_is) (search rules)
