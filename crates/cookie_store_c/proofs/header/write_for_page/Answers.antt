use Rattle.std.proofs.Common.{◌≡◌, Err, FitsSigned, Ok, Result, Some, inl, inr, ap, refl, subst, sym, w64, ◌∙◌}
use Rattle.std.proofs.lemmas.Int.{to_z-of_z}
use Rattle.cookie_words.specs.Moments.{moment_of}
use Rattle.cookie_strict.specs.declared.context.Context.{Context}
use Rattle.cookie_store_c.specs.Headers.{cross_site, IsPageHeader}
use Rattle.cookie_store_c.specs.declared.status.Status.{Status}
use Rattle.cookie_store_c.proofs.WrittenHeaders.{page_error_written, page_header_written, page_is_valid}
use Rattle.cookie_store_c.proofs.header.write_for_page.Goals as goal

pub returns-in-Err : goal.returns-in-Err
returns-in-Err c =
    let is = sym c.cross_site.ensures ∙ c.in-Err.is in
    let expected = Err c.in-Err.status in
    inl (
      expected,
      subst (λ (request : Result Context Status). IsPageHeader request (Some c.args.store.now) c.args.page.now c.args.url.now c.args.now expected) (sym is) refl,
      c.copy_out.ensures,
    )

pub returns-in-Ok-page_and_request : goal.returns-in-Ok-page_and_request
returns-in-Ok-page_and_request c =
    let fits : FitsSigned w64 c.args.now = c.ranges.now in
    let flags : cross_site c.args.flags ≡ Ok c.in-Ok.context = sym c.cross_site.ensures ∙ c.in-Ok.is in
    let p = c.in-Ok-page_and_request in
    let store = c.args.store.now in
    let moment = moment_of p.now in
    let value = simp to_z-of_z at p.ensures.value in
    rw flags (elim value [
      | inl is ↦ page_header_written _ c.in-Ok.context c.from_page-context.result store c.args.page.now c.args.url.now c.args.now _ c.args.out.now _ _ _
          (λ text. text.items) p.page p.url moment c.text_for-text.result c.from_page-context.ensures is c.text_for-text.ensures.text
          c.text_for-text.ensures.memory (
            refl,
            (page_is_valid c.args.page.now c.args.url.now c.args.now (p.page, p.url, moment) is).0,
            (page_is_valid c.args.page.now c.args.url.now c.args.now (p.page, p.url, moment) is).1,
          )
          c.copy_out-in-Ok-page_and_request.ensures
      | inr out ↦ absurd (cc)
    ])

pub returns-in-Err-page_and_request : goal.returns-in-Err-page_and_request
returns-in-Err-page_and_request c =
    let fits : FitsSigned w64 c.args.now = c.ranges.now in
    let flags : cross_site c.args.flags ≡ Ok c.in-Ok.context = sym c.cross_site.ensures ∙ c.in-Ok.is in
    let p = c.in-Err-page_and_request in
    let value = simp to_z-of_z at p.ensures.value in
    let memory = simp to_z-of_z at p.ensures.memory in
    rw flags
    (page_error_written c.in-Ok.context c.args.store.now c.args.page.now c.args.url.now c.args.now _ c.args.out.now _ _ _ p.status value
    (λ same. let valid = memory (ap Err same) in (refl, valid.0, valid.1)) c.copy_out-in-Err-page_and_request.ensures)
