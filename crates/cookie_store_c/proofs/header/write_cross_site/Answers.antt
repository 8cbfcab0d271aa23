use Rattle.std.proofs.Common.{Err, Result, Some, inl, refl, subst, sym, ◌∙◌}
use Rattle.cookie_strict.specs.declared.context.Context.{Context}
use Rattle.cookie_store_c.specs.Headers.{IsCrossSiteHeader}
use Rattle.cookie_store_c.specs.declared.status.Status.{Status}
use Rattle.cookie_store_c.proofs.header.write_cross_site.Goals as goal

pub returns-in-Err : goal.returns-in-Err
returns-in-Err c =
    let is = sym c.cross_site.ensures ∙ c.in-Err.is in
    let expected = Err c.in-Err.status in
    inl (
      expected,
      subst (λ (request : Result Context Status). IsCrossSiteHeader request (Some c.args.store.now) c.args.url.now c.args.now expected) (sym is) refl,
      c.copy_out.ensures,
    )
