use Rattle.std.proofs.Common.{◌≡◌, FitsSigned, Ok, IsOk, Some, ap, inl, inr, refl, subst, sym, w64, ◌∙◌}
use Rattle.std.proofs.lemmas.Int.{to_z-of_z}
use Rattle.cookie_words.specs.Moments.{moment_of}
use Rattle.cookie_parts.specs.Cookie.{and_then}
use Rattle.cookie_strict.specs.StrictRuns.{response_call}
use Rattle.cookie_store_c.specs.Calls.{allowed_outcome, response_outcome, HasOutcome}
use Rattle.cookie_store_c.specs.Headers.{cross_site}
use Rattle.cookie_store_c.specs.Inputs.{page_and_request, response_inputs, text_and_time, text_in}
use Rattle.cookie_store_c.proofs.StrictOutcomes.{strict_outcome}
use Rattle.cookie_store_c.proofs.WrittenHeaders.{page_is_valid}
use Rattle.cookie_store_c.proofs.calls.parse_for_page.Goals as goal

pub returns : goal.returns
returns c =
    let fits : FitsSigned w64 c.args.now = c.ranges.now in
    let flags : cross_site c.args.flags ≡ Ok c.in-Ok.context = sym c.cross_site.ensures ∙ c.in-Ok.is in
    let text = c.in-Ok-text_in.text.now in
    let read : text_in c.args.value.now ≡ Ok text = sym c.in-Ok-text_in.ensures in
    let inputs = c.in-Ok-page_and_request.inputs in
    let moment = moment_of inputs.2 in
    let store = c.args.store.now in
    let value = simp to_z-of_z at c.in-Ok-page_and_request.ensures.value in
    let MayAllocate : Type 0 = IsOk (cross_site c.args.flags) × IsOk (text_in c.args.value.now) × IsOk (text_in c.args.page.now)
    × IsOk (text_and_time c.args.url.now c.args.now) in
    elim value [
      | inl is ↦
          let page = page_is_valid c.args.page.now c.args.url.now c.args.now (inputs.0, inputs.1, moment) is in
          let may : MayAllocate = (subst IsOk (sym flags) refl, subst IsOk (sym read) refl, page.0, page.1) in
          let call : response_inputs c.args.page.now c.args.url.now c.args.value.now c.args.now ≡ Ok (text, inputs.0, inputs.1, moment) =
          ap (λ t. and_then t (λ x. and_then (page_and_request c.args.page.now c.args.url.now c.args.now) (λ i. Ok (x, i.0, i.1, i.2)))) read
          ∙ ap (λ r. and_then r (λ i. Ok (text, i.0, i.1, i.2))) (sym is) in
          let outcome = ap (λ f. response_outcome f store (response_inputs c.args.page.now c.args.url.now c.args.value.now c.args.now)) flags
          ∙ ap (response_outcome (Ok c.in-Ok.context) store) call in
          subst (λ o. HasOutcome o MayAllocate (Some store) c.of_strict.result (Some c.parse_in_context.new.store)) (sym outcome)
          (subst (λ k. HasOutcome (allowed_outcome store (response_call k text inputs.1 moment store)) MayAllocate (Some store) c.of_strict.result (Some c.parse_in_context.new.store))
          c.from_page-context.ensures
          (strict_outcome MayAllocate c.parse_in_context.result (response_call c.from_page-context.result text inputs.1 moment store) store
          c.parse_in_context.new.store c.of_strict.result may c.parse_in_context.ensures.reply c.parse_in_context.ensures.store
          c.parse_in_context.ensures.unchanged c.of_strict.ensures.inserted c.of_strict.ensures.rejected))
      | inr out ↦ absurd (cc)
    ]
