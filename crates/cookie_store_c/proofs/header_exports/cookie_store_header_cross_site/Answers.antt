use Rattle.std.proofs.Common.{Err, inl, refl}
use Rattle.cookie_store_c.specs.declared.status.Status.TheVariants.{NoStore}
use Rattle.cookie_store_c.proofs.header_exports.cookie_store_header_cross_site.Goals as goal

pub returns-in_default-clause-text : goal.returns-in_default-clause-text
returns-in_default-clause-text c =
    (NoStore, c.code.ensures, rw (← c.in_default.ensures.taken) (inl (Err NoStore, refl, refl)))
