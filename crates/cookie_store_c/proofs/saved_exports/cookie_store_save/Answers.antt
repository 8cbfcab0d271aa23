use Rattle.std.proofs.Common.{inl, refl}
use Rattle.cookie_store_c.specs.declared.status.Status.TheVariants.{NoStore}
use Rattle.cookie_store_c.proofs.saved_exports.cookie_store_save.Goals as goal

pub returns-in_default-clause-text : goal.returns-in_default-clause-text
returns-in_default-clause-text c =
    (NoStore, c.code.ensures, rw (← c.in_default.ensures.taken) (inl refl))

pub returns-in_default-clause-left_out : goal.returns-in_default-clause-left_out
returns-in_default-clause-left_out c =
    (NoStore, c.code.ensures, rw (← c.in_default.ensures.taken) refl)
