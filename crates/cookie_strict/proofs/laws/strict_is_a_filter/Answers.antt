use Rattle.std.proofs.Common.{◌≡◌, List, [], ◌∷◌, Result, Ok, Err, refl, sym, ◌∙◌}
use Rattle.cookie_laws.specs.Contents.{Contents}
use Rattle.cookie_laws.specs.Runs.{Call, store_after}
use Rattle.cookie_strict.specs.StrictRuns.{allowed_calls, allowed_first, plain_calls, store_after_call, strict_call, strict_store_after}
use Rattle.cookie_strict.specs.declared.error.StrictError.{StrictError}
use Rattle.cookie_strict.proofs.SecureRows.{store_after-append}
use Rattle.cookie_strict.proofs.laws.strict_is_a_filter.Goals as goal

-- the allowed call in front
first_allowed : (allowed : Result Call StrictError) (calls : List Call) (store : Contents)
    → store_after (allowed_first allowed store calls) store ≡ store_after calls (store_after_call allowed store)
first_allowed (Ok call) calls store = store_after-append (plain_calls call store) calls store
first_allowed (Err error) calls store = refl

filtered : (calls : List Call) (store : Contents) → strict_store_after calls store ≡ store_after (allowed_calls calls store) store
filtered [] store = refl
filtered (call ∷ calls) store =
    let after = store_after_call (strict_call call store) store in
    filtered calls after ∙ sym (first_allowed (strict_call call store) (allowed_calls calls after) store)

pub returns : goal.returns
returns c = filtered
