use Rattle.cookie_store_c.specs.declared.status.Status.TheVariants.{NoStore}
use Rattle.cookie_store_c.proofs.exports.cookie_store_remove_domain.Goals as goal

pub returns-in_default-clause-store : goal.returns-in_default-clause-store
returns-in_default-clause-store c =
    (NoStore, c.code.ensures, rw (← c.in_default.ensures.taken) (λ i. record { status = NoStore; store = c.take.ensures.empty i }))
