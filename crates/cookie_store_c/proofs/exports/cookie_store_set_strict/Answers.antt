use Rattle.cookie_store_c.specs.declared.status.Status.TheVariants.{Done, NoStore}
use Rattle.cookie_store_c.proofs.exports.cookie_store_set_strict.Goals as goal

pub returns-in_default-clause-outcome : goal.returns-in_default-clause-outcome
returns-in_default-clause-outcome c =
    (NoStore, c.code.ensures, rw (← c.in_default.ensures.taken) (λ i. record { status = NoStore; store = c.take.ensures.empty i }))

pub returns-clause-outcome : goal.returns-clause-outcome
returns-clause-outcome c =
    (Done, c.code-2.ensures, rw (← c.in-Some.ensures.taken) (λ i. record { status = Done; store = c.put.ensures.store i }))
