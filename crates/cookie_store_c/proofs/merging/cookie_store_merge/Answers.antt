use Rattle.cookie_store_c.specs.declared.status.Status.TheVariants.{NoStore}
use Rattle.cookie_store_c.proofs.merging.cookie_store_merge.Goals as goal

pub returns-in_default-clause-merged : goal.returns-in_default-clause-merged
returns-in_default-clause-merged c =
    (NoStore, c.code.ensures, rw (← c.in_default.ensures.taken) (λ i. record { status = NoStore; left_out = 0; store = c.take.ensures.empty i }))
