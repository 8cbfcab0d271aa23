use Rattle.std.proofs.Common.{◌∙◌, OnErr, Result, Ok, Err, ap, length, sym}
use Rattle.std.proofs.lemmas.List.{length-map, nil_from_length}
use Rattle.std.proofs.lemmas.List.Sorted.{length_permutation}
use Rattle.cookie_core.proofs.cookie_store.CookieStore.cookie_header.Goals as goal

-- what holds at all holds of an error
on_err : {T E P : Type 0} (r : Result T E) → P → OnErr r P
on_err (Ok x) p = tt
on_err (Err e) p = p

pub returns-in_err-cookie_string-clause-memory : goal.returns-in_err-cookie_string-clause-memory
returns-in_err-cookie_string-clause-memory c =
    let cookies = c.in_ok-cookies.cookies.items in
    on_err c.from_residual-in_err-cookie_string.result
    (λ none. c.in_err-cookie_string.ensures.memory (c.deref.ensures.value ∙ nil_from_length cookies
    (sym (length-map cookies (λ x. x.now)) ∙ length_permutation _ _ c.in_ok-cookies.ensures.order.0 ∙ ap length none)))
