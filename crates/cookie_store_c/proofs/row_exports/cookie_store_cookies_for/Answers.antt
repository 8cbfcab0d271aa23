use Rattle.std.proofs.Common.{◌≡◌, Err, FitsSigned, Some, inl, refl, rules, w64}
use Rattle.std.proofs.lemmas.Int.{to_z-of_z}
use Rattle.cookie_store_c.specs.Headers.{own_request}
use Rattle.cookie_store_c.specs.declared.status.Status.TheVariants.{NoStore}
use Rattle.cookie_store_c.proofs.RequestRows.{in_a_store}
use Rattle.cookie_store_c.proofs.row_exports.cookie_store_cookies_for.Goals as goal

pub returns-in_default-clause-reported : goal.returns-in_default-clause-reported
returns-in_default-clause-reported c =
    (NoStore, c.code.ensures, rw (← c.in_default.ensures.taken) (inl (Err NoStore, refl, refl)))

pub returns-clause-reported : goal.returns-clause-reported
returns-clause-reported c =
    let fits : FitsSigned w64 c.args.now = c.ranges.now in
    let written = simp to_z-of_z at c.write_request_rows-status.ensures in
    let asked : c.own_request.result ≡ own_request c.args.handle.now.is_strict = search rules in
    let is : Some c.deref.result.now ≡ c.args.handle.now.store_ptr.store = search rules in (
      c.write_request_rows-status.result,
      c.code-2.ensures,
      in_a_store c.own_request.result c.deref.result.now c.args.url.now c.args.now c.args.rows.now c.args.strings.now _
          (own_request c.args.handle.now.is_strict) asked c.args.handle.now.store_ptr.store is written,
    )
