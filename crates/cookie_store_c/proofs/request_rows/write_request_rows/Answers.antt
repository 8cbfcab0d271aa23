use Rattle.std.proofs.Common.{FitsSigned, ap, map, refl, w64}
use Rattle.std.proofs.lemmas.Int.{to_z-of_z}
use Rattle.cookie_store_c.proofs.RequestRows.{rows_failed, rows_written}
use Rattle.cookie_store_c.proofs.request_rows.write_request_rows.Goals as goal

pub returns-in-Ok : goal.returns-in-Ok
returns-in-Ok c =
    let fits : FitsSigned w64 c.args.now = c.ranges.now in
    let given = simp to_z-of_z at c.request_cookies.ensures in
    rows_written c.args.context c.args.store.now c.args.url.now c.args.now c.args.rows.now c.args.strings.now _ (λ cookies. map (λ c. c.now) cookies.items)
    c.in-Ok.cookies _ c.request_cookies.result c.in-Ok.is given (ap (map (λ c. c.now)) c.deref.ensures.value) c.write_rows.ensures

pub returns-in-Err : goal.returns-in-Err
returns-in-Err c =
    let fits : FitsSigned w64 c.args.now = c.ranges.now in
    let given = simp to_z-of_z at c.request_cookies.ensures in
    rows_failed c.args.context c.args.store.now c.args.url.now c.args.now c.args.rows.now c.args.strings.now _ (λ cookies. map (λ c. c.now) cookies.items)
    c.in-Err.status c.request_cookies.result c.in-Err.is given refl
