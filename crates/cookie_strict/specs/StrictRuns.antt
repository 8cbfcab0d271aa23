-- Calls on a store under the draft's rules, draft-ietf-httpbis-rfc6265bis 5.7.
use Rattle.std.specs.Prelude.{◌≡◌, ℕ, Bool, true, false, List, [], ◌∷◌, ◌++◌, map, Option, Some, None, Result, Ok, Err, ◌⊎◌, if◌then◌else◌}
use Rattle.std.specs.Result.{result_map_both}
use Rattle.url.specs.Parts.{Parts}
use Rattle.cookie_words.specs.Moments.{Moment}
use Rattle.cookie_raw.specs.Raw.{Raw}
use Rattle.cookie_raw.specs.Rfc6265bis.{reading_by}
use Rattle.cookie_raw.specs.declared.syntax.Syntax.TheVariants.{Rfc6265bis}
use Rattle.cookie_parts.specs.Cookie.{Row, and_then, cookie_of}
use Rattle.cookie_parts.specs.declared.cookie_error.CookieError.{CookieError}
use Rattle.cookie_parts.specs.declared.cookie_error.CookieError.TheVariants.{Memory}
use Rattle.cookie_parts.specs.declared.store_action.StoreAction.{StoreAction}
use Rattle.cookie_parts.specs.declared.store_action.StoreAction.TheVariants.{Inserted}
use Rattle.cookie_laws.specs.Acceptance.{outcome_after_checks}
use Rattle.cookie_laws.specs.Contents.{Contents}
use Rattle.cookie_laws.specs.Rows.{is_unexpired}
use Rattle.cookie_laws.specs.Runs.{Call, Set, Insert, Remove, Clear, Reply, Stored, step, store_after}
use Rattle.cookie_laws.specs.SecureLast.{secure_last_calls}
use Rattle.cookie_strict.specs.CrossSite.{context_error}
use Rattle.cookie_strict.specs.HeaderValue.{first_error, header_error, pair_error, strict_cookie, PassesEarlyChecks}
use Rattle.cookie_strict.specs.Lifetime.{limited_cookie}
use Rattle.cookie_strict.specs.SecureUrl.{is_secure_url}
use Rattle.cookie_strict.specs.SiteRule.{admitted_by_site}
use Rattle.cookie_strict.specs.StrictRules.{broken_rule}
use Rattle.cookie_strict.specs.declared.context.Context.{Context}
use Rattle.cookie_strict.specs.declared.error.StrictError.{StrictError}
use Rattle.cookie_strict.specs.declared.error.StrictError.TheVariants.{Cookie}

-- the plain call that inserts the cookie, unless it breaks a rule
abbrev pub unless_broken : Option StrictError → Call → Result Call StrictError
unless_broken None call = Ok call
unless_broken (Some error) call = Err error

-- the plain call, if the store accepts it and the cookie breaks no rule
abbrev pub if_accepted : Result StoreAction CookieError → Option StrictError → Call → Result Call StrictError
if_accepted (Ok action) broken call = unless_broken broken call
if_accepted (Err error) broken call = Err (Cookie error)

-- the reply to the plain insertion, or the error of a cookie above the site of its host
abbrev pub site_reply : Row → Parts → Moment → Contents → Result StoreAction CookieError
site_reply cookie url now store = (outcome_after_checks (admitted_by_site store.suffixes url cookie) url now store).reply

-- the plain insertion of a cookie that expires in time, or the error
abbrev pub allowed_insertion : Row → Parts → Moment → Contents → Result Call StrictError
allowed_insertion cookie url now store =
    if_accepted (site_reply cookie url now store) (broken_rule cookie url now store) (Insert cookie url now)

-- the plain insertion, unless there is an error
abbrev pub unless_error : Option StrictError → Result Call StrictError → Result Call StrictError
unless_error None allowed = allowed
unless_error (Some error) allowed = Err error

-- the same for any cookie, which then expires at most 400 days from `now`
abbrev pub strict_insertion : Row → Parts → Moment → Contents → Result Call StrictError
strict_insertion cookie url now store = unless_error (pair_error cookie.raw) (allowed_insertion (limited_cookie now cookie) url now store)

-- the plain call that a call becomes under the rules, or the error
abbrev pub strict_call : Call → Contents → Result Call StrictError
strict_call (Set text url now) store = and_then (strict_cookie text url now) (λ cookie. strict_insertion cookie url now store)
strict_call (Insert cookie url now) store = strict_insertion cookie url now store
strict_call (Remove key) store = Ok (Remove key)
strict_call Clear store = Ok Clear

-- 5.7: the insertion of a raw cookie received from the URL, or the error
abbrev pub raw_insertion : Raw → Parts → Moment → Contents → Result Call StrictError
raw_insertion raw url now store =
    and_then (result_map_both (λ cookie. cookie) Cookie (cookie_of raw url now)) (λ cookie. strict_insertion cookie url now store)

-- 5.7: the error of a header value in the response to a request of this context, if it is found before the URL is looked at
abbrev pub response_error : Context → List ℕ → Option StrictError
response_error context text = first_error (header_error text) (elim (reading_by Rfc6265bis text) [
  | Ok raw ↦ context_error context raw
  | Err error ↦ None
])

-- 5.7: the call that inserts the cookie of a header value received so, or the error
abbrev pub response_call : Context → List ℕ → Parts → Moment → Contents → Result Call StrictError
response_call context text url now store = unless_error (response_error context text) (strict_call (Set text url now) store)

-- the plain calls that an allowed call stands for: of an insertion, the removals of the rows that are evicted, and then
-- the insertion
abbrev pub plain_calls : Call → Contents → List Call
plain_calls (Set text url now) store = Set text url now ∷ []
plain_calls (Insert cookie url now) store = secure_last_calls store cookie url now
plain_calls (Remove key) store = Remove key ∷ []
plain_calls Clear store = Clear ∷ []

-- the store after an allowed call, or unchanged after an error
abbrev pub store_after_call : Result Call StrictError → Contents → Contents
store_after_call (Ok call) store = store_after (plain_calls call store) store
store_after_call (Err error) store = store

-- the result is that of the plain call, or the error; any result is if it is out of memory
abbrev pub IsStrictReply : Result StoreAction StrictError → Result Call StrictError → Contents → Type 0
IsStrictReply (Ok action) (Ok call) store = (step call store).reply ≡ Stored (Ok action)
IsStrictReply (Ok action) (Err error) store = ⊥
IsStrictReply (Err error) allowed store = (error ≡ Cookie Memory) ⊎ (allowed ≡ Err error)

-- the plain call inserts a cookie that no stored one has the key of
abbrev pub InsertsNew : Result Call StrictError → Contents → Type 0
InsertsNew (Ok call) store = (step call store).reply ≡ Stored (Ok Inserted)
InsertsNew (Err error) store = ⊥

-- the store after calls under the rules
abbrev pub strict_store_after : List Call → Contents → Contents
strict_store_after [] store = store
strict_store_after (call ∷ calls) store = strict_store_after calls (store_after_call (strict_call call store) store)

-- the reply to a call under the rules: that of the plain call, or the error
abbrev pub strict_reply : Call → Contents → Result Reply StrictError
strict_reply call store = result_map_both (λ plain. (step plain store).reply) (λ error. error) (strict_call call store)

-- the replies to those calls that pass the test, in the run of all calls
abbrev pub strict_replies_to : (Call → Bool) → List Call → Contents → List (Result Reply StrictError)
strict_replies_to test [] store = []
strict_replies_to test (call ∷ calls) store =
    let later = strict_replies_to test calls (store_after_call (strict_call call store) store) in
    if test call then strict_reply call store ∷ later else later

-- the plain calls of a call before others, if it is allowed
abbrev pub allowed_first : Result Call StrictError → Contents → List Call → List Call
allowed_first (Ok call) store calls = plain_calls call store ++ calls
allowed_first (Err error) store calls = calls

-- the plain calls that calls under the rules become
abbrev pub allowed_calls : List Call → Contents → List Call
allowed_calls [] store = []
allowed_calls (call ∷ calls) store =
    allowed_first (strict_call call store) store (allowed_calls calls (store_after_call (strict_call call store) store))

-- the calls that insert the cookies of these header values, received from the URL at this time
abbrev pub set_calls : Parts → Moment → List (List ℕ) → List Call
set_calls url now values = map (λ value. Set value url now) values

-- memory ran out at a header value that is not rejected early: the cookies of those before it are stored
abbrev pub StopsAt : Parts → Moment → List (List ℕ) → Contents → Contents → Type 0
StopsAt url now values old new =
    (before : List (List ℕ)) × (value : List ℕ) × (after : List (List ℕ)) × (values ≡ before ++ value ∷ after)
    × PassesEarlyChecks value url × (new ≡ strict_store_after (set_calls url now before) old)

-- an insertion from a URL that is not secure, at a time at which this row has not expired
abbrev pub IsInsecureInsertion : Row → Call → Type 0
IsInsecureInsertion row (Set text url now) = (is_secure_url url ≡ false) × (is_unexpired now row ≡ true)
IsInsecureInsertion row (Insert cookie url now) = (is_secure_url url ≡ false) × (is_unexpired now row ≡ true)
IsInsecureInsertion row (Remove key) = ⊥
IsInsecureInsertion row Clear = ⊥
