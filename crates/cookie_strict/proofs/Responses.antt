-- The store after one more header value of a response.
use Rattle.std.proofs.Common.{◌≡◌, ℕ, ◌+◌, ◌<◌, List, [], ◌∷◌, ◌++◌, length, map, take, drop, slice_index_or, Bor, Result, Ok, Err, OnOk, OnErr, ⊎_elim, refl, sym, ap, ◌∙◌}
use Rattle.std.proofs.lemmas.List.{append_assoc, map-append, map_more, take-append-drop, take-map}
use Rattle.url.specs.Parts.{Parts}
use Rattle.cookie_words.specs.Moments.{Moment}
use Rattle.cookie_parts.specs.declared.cookie_error.CookieError.TheVariants.{Memory}
use Rattle.cookie_parts.specs.declared.store_action.StoreAction.{StoreAction}
use Rattle.cookie_laws.specs.Contents.{Contents}
use Rattle.cookie_laws.specs.Runs.{Call, Set}
use Rattle.cookie_strict.specs.HeaderValue.{PassesEarlyChecks}
use Rattle.cookie_strict.specs.StrictRuns.{set_calls, store_after_call, strict_call, strict_store_after, IsStrictReply, StopsAt}
use Rattle.cookie_strict.specs.declared.error.StrictError.{StrictError}
use Rattle.cookie_strict.specs.declared.error.StrictError.TheVariants.{Cookie}

-- one more call
pub one_more : (calls : List Call) (call : Call) (store : Contents)
    → strict_store_after (calls ++ call ∷ []) store
    ≡ store_after_call (strict_call call (strict_store_after calls store)) (strict_store_after calls store)
one_more [] call store = refl
one_more (first ∷ calls) call store = one_more calls call (store_after_call (strict_call first store) store)

-- unless out of memory, a header value leaves the store that its call leaves
pub after_value : (reported : Result StoreAction StrictError) (allowed : Result Call StrictError) (old new : Contents) → IsStrictReply reported allowed old
    → OnOk reported (new ≡ store_after_call allowed old) → OnErr reported (new ≡ old) → (reported ≡ Err (Cookie Memory) → ⊥)
    → new ≡ store_after_call allowed old
after_value (Ok action) allowed old new reply stored unchanged never = stored
after_value (Err error) allowed old new reply stored unchanged never =
    ⊎_elim (λ memory. absurd (never (ap Err memory))) (λ is. unchanged ∙ ap (λ a. store_after_call a old) (sym is)) reply

-- so the store after the header values up to the next one
pub next_value : (d : Bor (List ℕ)) (values : List (Bor (List ℕ))) (i : ℕ) (url : Parts) (now : Moment) (old before new : Contents) → i < length values
    → before ≡ strict_store_after (set_calls url now (take i (map (λ v. v.now) values))) old
    → new ≡ store_after_call (strict_call (Set (slice_index_or values i d).now url now) before) before
    → new ≡ strict_store_after (set_calls url now (take (i + 1) (map (λ v. v.now) values))) old
next_value d values i url now old before new within known parsed =
    let call : List ℕ → Call = λ value. Set value url now in
    let value = (slice_index_or values i d).now in
    let passed = map (λ (v : Bor (List ℕ)). v.now) (take i values) in
    parsed
    ∙ ap (λ (s : Contents). store_after_call (strict_call (call value) s) s)
    (known ∙ ap (λ vs. strict_store_after (set_calls url now vs) old) (take-map (λ (v : Bor (List ℕ)). v.now) i values))
    ∙ sym (one_more (set_calls url now passed) (call value) old)
    ∙ ap (λ calls. strict_store_after calls old) (sym (map-append call passed (value ∷ [])))
    ∙ ap (λ vs. strict_store_after (set_calls url now vs) old)
    (sym (map_more (λ (v : Bor (List ℕ)). v.now) values i d within) ∙ sym (take-map (λ (v : Bor (List ℕ)). v.now) (i + 1) values))

-- and if memory runs out at the next one, the store is that before it
pub stops_at_value : (d : Bor (List ℕ)) (values : List (Bor (List ℕ))) (i : ℕ) (url : Parts) (now : Moment) (old before new : Contents) → i < length values
    → before ≡ strict_store_after (set_calls url now (take i (map (λ v. v.now) values))) old
    → PassesEarlyChecks (slice_index_or values i d).now url → new ≡ before → StopsAt url now (map (λ v. v.now) values) old new
stops_at_value d values i url now old before new within known passes same =
    let value = (slice_index_or values i d).now in
    let all = map (λ (v : Bor (List ℕ)). v.now) values in
    let passed = map (λ (v : Bor (List ℕ)). v.now) (take i values) in
    let more = take-map (λ (v : Bor (List ℕ)). v.now) (i + 1) values ∙ map_more (λ (v : Bor (List ℕ)). v.now) values i d within in (
      passed,
      value,
      drop (i + 1) all,
      sym (take-append-drop (i + 1) all) ∙ ap (λ xs. xs ++ drop (i + 1) all) more ∙ append_assoc passed (value ∷ []) (drop (i + 1) all),
      passes,
      same ∙ known ∙ ap (λ vs. strict_store_after (set_calls url now vs) old) (take-map (λ (v : Bor (List ℕ)). v.now) i values),
    )

-- what holds anyway holds after an error
pub on_err_anyway : {A E P : Type 0} (result : Result A E) → P → OnErr result P
on_err_anyway (Ok a) holds = tt
on_err_anyway (Err error) holds = holds
