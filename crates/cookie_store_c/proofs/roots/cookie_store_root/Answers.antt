use Rattle.std.proofs.Common.{inl, refl}
use Rattle.cookie_store_c.specs.declared.status.Status.TheVariants.{NoStore}
use Rattle.cookie_store_c.proofs.roots.cookie_store_root.Goals as goal

pub returns-in_default-clause-text : goal.returns-in_default-clause-text
returns-in_default-clause-text c =
    (NoStore, c.code.ensures, rw (← c.in_default.ensures.taken) (inl refl))
