-- The cookies of one store inserted into another under the draft's rules, each as if it was received from its own domain.
use Rattle.std.specs.Prelude.{◌≡◌, ℕ, ◌+◌, List, [], ◌∷◌, ◌++◌, is_ok, if◌then◌else◌}
use Rattle.cookie_words.specs.Moments.{Moment}
use Rattle.cookie_parts.specs.Cookie.{Row}
use Rattle.cookie_laws.specs.Contents.{Contents}
use Rattle.cookie_laws.specs.Runs.{Call}
use Rattle.cookie_core.specs.Merging.{own_insertions}
use Rattle.cookie_strict.specs.StrictRuns.{store_after_call, strict_call, strict_store_after}

-- how many of the calls are allowed, each on the store that the previous ones left
abbrev pub how_many_allowed : List Call → Contents → ℕ
how_many_allowed [] store = 0
how_many_allowed (call ∷ calls) store =
    (if is_ok (strict_call call store) then 1 else 0) + how_many_allowed calls (store_after_call (strict_call call store) store)

-- memory ran out: some of the cookies are inserted, and those behind them are not
abbrev pub MergesSomeStrictly : Moment → List Row → Contents → Contents → Type 0
MergesSomeStrictly now cookies old new =
    (done : List Row) × (others : List Row) × (cookies ≡ done ++ others) × (new ≡ strict_store_after (own_insertions now done) old)
