use Rattle.std.proofs.Common.{inl}
use Rattle.cookie_store_c.specs.declared.status.Status.TheVariants.{HasStore}
use Rattle.cookie_store_c.proofs.exports.copy_store.Goals as goal

pub returns-in-Some-clause-outcome : goal.returns-in-Some-clause-outcome
returns-in-Some-clause-outcome c =
    rw (← c.in-Some.ensures.taken) (inl (λ i. record { status = HasStore; store = c.put.ensures.store i }))
