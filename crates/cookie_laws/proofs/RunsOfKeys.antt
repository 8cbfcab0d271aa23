-- Runs of all calls, and of those for the keys that pass a test.
use Rattle.std.proofs.Common.{◌≡◌, Bool, true, false, cond, List, [], ◌∷◌, Some, option_map, Result, Ok, Err, ◌∙◌, refl, sym, ap}
use Rattle.std.specs.List.{filter}
use Rattle.std.specs.Result.{result_ok}
use Rattle.std.proofs.lemmas.Bool.{cond-true, cond_both}
use Rattle.url.specs.Parts.{Parts}
use Rattle.cookie_words.specs.Moments.{Moment}
use Rattle.cookie_parts.specs.Cookie.{Row, cookie_from_header}
use Rattle.cookie_parts.specs.declared.cookie_error.CookieError.{CookieError}
use Rattle.cookie_laws.specs.Contents.{Contents}
use Rattle.cookie_laws.specs.Rows.{Key, key_of}
use Rattle.cookie_laws.specs.Acceptance.{received}
use Rattle.cookie_laws.specs.Runs.{Call, Set, Insert, Remove, Clear, Removed, Step, stored, step, replies, store_after}
use Rattle.cookie_laws.specs.Related.{call_key, replies_to}
use Rattle.cookie_laws.proofs.Filtered.{filter-within}
use Rattle.cookie_laws.proofs.RowsOfKeys.{IsByDomain, row_of-passing, removed-passing, removed-other}
use Rattle.cookie_laws.proofs.StoresOfKeys.{passing_store, unmade-other, unmade-passing}
use Rattle.cookie_laws.proofs.AcceptanceOfKeys.{passing_outcome, accept-passing, accept-other}

-- a test of calls keeps `Clear` and, of the calls for a key, those whose key passes
pub record IsOfKeys (test : Key → Bool) (keeps : Call → Bool) : Type 0 where
  pub domains : IsByDomain test
  pub calls : (call : Call) (key : Key) → call_key call ≡ Some key → keeps call ≡ test key
  pub clear : keeps Clear ≡ true

-- a step with the rows whose keys pass
abbrev pub passing_step : (Key → Bool) → Step → Step
passing_step test after = record { reply = after.reply; store = passing_store test after.store }

-- a cookie whose key passes, or an error
received-passing : (test : Key → Bool) → IsByDomain test → (store : Contents) (cookie_result : Result Row CookieError) (url : Parts) (now : Moment)
    → ((key : Key) → option_map key_of (result_ok cookie_result) ≡ Some key → test key ≡ true)
    → received (passing_store test store) cookie_result url now ≡ passing_outcome test (received store cookie_result url now)
received-passing test by_domain store (Ok cookie) url now here = accept-passing test by_domain store cookie url now (here (key_of cookie) refl)
received-passing test by_domain store (Err rejection) url now here = refl

-- and one whose key does not
received-other : (test : Key → Bool) → IsByDomain test → (store : Contents) (cookie_result : Result Row CookieError) (url : Parts) (now : Moment)
    → ((key : Key) → option_map key_of (result_ok cookie_result) ≡ Some key → test key ≡ false)
    → passing_store test (received store cookie_result url now).store ≡ passing_store test store
received-other test by_domain store (Ok cookie) url now away = accept-other test by_domain store cookie url now (away (key_of cookie) refl)
received-other test by_domain store (Err rejection) url now away = refl

-- a call that is kept does the same among the rows that pass
pub step-kept : {test : Key → Bool} {keeps : Call → Bool} → IsOfKeys test keeps → (call : Call) (store : Contents) → keeps call ≡ true
    → step call (passing_store test store) ≡ passing_step test (step call store)
step-kept {test} {keeps} h (Set text url now) store kept =
    ap stored (received-passing test h.domains store (cookie_from_header text url now) url now
    (λ key is. sym (h.calls (Set text url now) key is) ∙ kept))
step-kept {test} {keeps} h (Insert cookie url now) store kept =
    ap stored (accept-passing test h.domains store cookie url now
    (sym (h.calls (Insert cookie url now) (key_of cookie) refl) ∙ kept))
step-kept {test} {keeps} h (Remove key) store kept =
    let here : test key ≡ true = sym (h.calls (Remove key) key refl) ∙ kept in
    let row = row_of-passing test key store.rows here in
    let rows = removed-passing test key store.rows here in
    let created = unmade-passing test key store.created here in
    λ i. record { reply = Removed (row i); store = record store { rows = sym rows i; created = sym created i } }
step-kept {test} {keeps} h Clear store kept = refl

-- a call that is not kept changes nothing among them
pub step-lost : {test : Key → Bool} {keeps : Call → Bool} → IsOfKeys test keeps → (call : Call) (store : Contents) → keeps call ≡ false
    → passing_store test (step call store).store ≡ passing_store test store
step-lost {test} {keeps} h (Set text url now) store lost =
    received-other test h.domains store (cookie_from_header text url now) url now
    (λ key is. sym (h.calls (Set text url now) key is) ∙ lost)
step-lost {test} {keeps} h (Insert cookie url now) store lost =
    accept-other test h.domains store cookie url now (sym (h.calls (Insert cookie url now) (key_of cookie) refl) ∙ lost)
step-lost {test} {keeps} h (Remove key) store lost =
    let away : test key ≡ false = sym (h.calls (Remove key) key refl) ∙ lost in
    let rows = removed-other test key store.rows away in
    let created = unmade-other test key store.created away in
    λ i. record store { rows = rows i; created = created i }
step-lost {test} {keeps} h Clear store lost = let kept = h.clear in cc

-- the rows that pass, after a run, are the rows after the kept calls from those that passed
store_after-kept : {test : Key → Bool} {keeps : Call → Bool} → IsOfKeys test keeps → (calls : List Call) (store : Contents)
    → passing_store test (store_after calls store) ≡ store_after (filter keeps calls) (passing_store test store)
store_after-kept h [] store = refl
store_after-kept {test} {keeps} h (call ∷ calls) store =
    let kept_calls = filter keeps calls in
    let later = store_after-kept h calls (step call store).store in
    cond_both (keeps call) (call ∷ kept_calls) kept_calls
    (λ zs. passing_store test (store_after calls (step call store).store) ≡ store_after zs (passing_store test store))
    (λ kept. later ∙ ap (λ after. store_after kept_calls after.store) (sym (step-kept h call store kept)))
    (λ lost. later ∙ ap (store_after kept_calls) (step-lost h call store lost))

-- two values that are chosen alike
cond_pair : {A B : Type 0} (b : Bool) (x y : A) (u v : B) (P : A → B → Type 0) → (b ≡ true → P x u) → (b ≡ false → P y v) → P (cond b x y) (cond b u v)
cond_pair true x y u v P first second = first refl
cond_pair false x y u v P first second = second refl

-- so are the replies
replies_to-kept : {test : Key → Bool} {keeps : Call → Bool} → IsOfKeys test keeps → (calls : List Call) (store : Contents)
    → replies_to keeps calls store ≡ replies (filter keeps calls) (passing_store test store)
replies_to-kept h [] store = refl
replies_to-kept {test} {keeps} h (call ∷ calls) store =
    let kept_calls = filter keeps calls in
    let after = step call store in
    let later = replies_to-kept h calls after.store in
    cond_pair (keeps call) (after.reply ∷ replies_to keeps calls after.store) (replies_to keeps calls after.store) (call ∷ kept_calls) kept_calls
    (λ others zs. others ≡ replies zs (passing_store test store))
    (λ kept. ap (λ others. after.reply ∷ others) later ∙ ap (λ next. next.reply ∷ replies kept_calls next.store) (sym (step-kept h call store kept)))
    (λ lost. later ∙ ap (replies kept_calls) (step-lost h call store lost))

-- if all calls are kept, so are all replies
replies_to-all : (keeps : Call → Bool) (calls : List Call) (store : Contents)
    → replies_to keeps (filter keeps calls) store ≡ replies (filter keeps calls) store
replies_to-all keeps [] store = refl
replies_to-all keeps (call ∷ calls) store =
    let kept_calls = filter keeps calls in
    let after = step call store in
    cond_both (keeps call) (call ∷ kept_calls) kept_calls
    (λ zs. replies_to keeps zs store ≡ replies zs store)
    (λ kept. cond-true (keeps call) (after.reply ∷ replies_to keeps kept_calls after.store) _ kept
    ∙ ap (λ others. after.reply ∷ others) (replies_to-all keeps calls after.store))
    (λ lost. replies_to-all keeps calls store)

-- the rows that pass are the same after all calls and after those that are kept
pub same_stores : {test : Key → Bool} {keeps : Call → Bool} → IsOfKeys test keeps → (calls : List Call) (store : Contents)
    → passing_store test (store_after calls store) ≡ passing_store test (store_after (filter keeps calls) store)
same_stores {test} {keeps} h calls store =
    store_after-kept h calls store
    ∙ ap (λ zs. store_after zs (passing_store test store)) (sym (filter-within keeps keeps (λ call kept. kept) calls))
    ∙ sym (store_after-kept h (filter keeps calls) store)

-- so are the replies to those that are kept
pub same_replies : {test : Key → Bool} {keeps : Call → Bool} → IsOfKeys test keeps → (calls : List Call) (store : Contents)
    → replies_to keeps calls store ≡ replies (filter keeps calls) store
same_replies {test} {keeps} h calls store =
    replies_to-kept h calls store
    ∙ ap (λ zs. replies zs (passing_store test store)) (sym (filter-within keeps keeps (λ call kept. kept) calls))
    ∙ sym (replies_to-kept h (filter keeps calls) store)
    ∙ replies_to-all keeps calls store
