use Rattle.std.proofs.Common.{inl}
use Rattle.cookie_store_c.specs.declared.status.Status.TheVariants.{NoStore}
use Rattle.cookie_store_c.proofs.response.cookie_store_parse_each.Goals as goal

pub returns-in_default-clause-outcome : goal.returns-in_default-clause-outcome
returns-in_default-clause-outcome c = (
  NoStore,
  c.code.ensures,
  rw (← c.in_default.ensures.taken)
      (inl (λ i. record { status = NoStore; store = c.take.ensures.empty i; codes = c.args.statuses.now })),
)
