-- The store after the header values so far.
use Rattle.std.proofs.Common.{◌≡◌, map, take}
use Rattle.cookie_words.specs.Moments.{moment_of}
use Rattle.cookie_strict.specs.StrictRuns.{set_calls, strict_store_after}
use Rattle.cookie_strict.proofs.response.store_response_cookies.Given as goal

abbrev pub invariant-loop-value : goal.invariant-loop-value
invariant-loop-value l =
    l.store ≡ strict_store_after (set_calls l.url (moment_of l.now) (take l.value-index (map (λ v. v.now) l.values))) l.fn.store
