use Rattle.std.proofs.Common.{refl}
use Rattle.cookie_store_c.specs.declared.status.Status.TheVariants.{NoStore}
use Rattle.cookie_store_c.proofs.row_exports.cookie_store_rows.Goals as goal

pub returns-in_default-clause-reported : goal.returns-in_default-clause-reported
returns-in_default-clause-reported c =
    (NoStore, c.code.ensures, rw (← c.in_default.ensures.taken) refl)
