-- Which calls of a run can affect the cookies given for a URL, and which the rows of a domain.
use Rattle.std.specs.Prelude.{ℕ, ◌==◌, Bool, true, false, ◌||◌, List, [], ◌∷◌, bytes_eq, filter, Option, Some, None, option_map, if◌then◌else◌}
use Rattle.std.specs.List.{list_any}
use Rattle.std.specs.Result.{result_ok}
use Rattle.url.specs.Parts.{Parts}
use Rattle.cookie_parts.specs.Cookie.{Row, cookie_from_header}
use Rattle.cookie_parts.specs.Domain.{domain_text}
use Rattle.cookie_parts.specs.Hosts.{host_of, passes}
use Rattle.cookie_laws.specs.Contents.{Contents}
use Rattle.cookie_laws.specs.Rows.{Key, key_of}
use Rattle.cookie_laws.specs.Runs.{Call, Set, Insert, Remove, Clear, Reply, step}

-- what follows each dot of a host: for "a.b.c", "b.c" and "c"
abbrev pub after_dots : List ℕ → List (List ℕ)
after_dots [] = []
after_dots (b ∷ bs) = if b == 46 then bs ∷ after_dots bs else after_dots bs

-- a domain is related to a URL if it is the URL's host, or follows one of the host's dots
abbrev pub is_related : Parts → List ℕ → Bool
is_related url domain = passes (λ host. list_any (bytes_eq domain) (host ∷ after_dots host)) (host_of url)

-- the key that a call is for; `Clear`, and a `Set` whose header value makes no cookie, have none
abbrev pub call_key : Call → Option Key
call_key (Set text url now) = option_map key_of (result_ok (cookie_from_header text url now))
call_key (Insert cookie url now) = Some (key_of cookie)
call_key (Remove key) = Some key
call_key Clear = None

-- the test of an optional value; true if there is none
abbrev pub passes_or_none : {T : Type 0} → (T → Bool) → Option T → Bool
passes_or_none test None = true
passes_or_none test (Some x) = test x

-- the call is not unrelated: its key's domain is related to the URL, or it has no key
abbrev pub may_affect : Parts → Call → Bool
may_affect url call = passes_or_none (λ key. is_related url key.domain) (call_key call)

-- the calls without the unrelated ones
abbrev pub calls_related_to : Parts → List Call → List Call
calls_related_to url calls = filter (may_affect url) calls

-- the call is `Clear`
abbrev pub is_clear : Call → Bool
is_clear Clear = true
is_clear other = false

-- the call's key has this domain, or the call is `Clear`
abbrev pub is_of_domain : List ℕ → Call → Bool
is_of_domain domain call = is_clear call || passes (λ key. bytes_eq domain key.domain) (call_key call)

-- the calls for the domain, and every `Clear`
abbrev pub domain_calls : List ℕ → List Call → List Call
domain_calls domain calls = filter (is_of_domain domain) calls

-- the rows of the domain
abbrev pub domain_rows : List ℕ → List Row → List Row
domain_rows domain rows = filter (λ row. bytes_eq domain (domain_text row.domain)) rows

-- the keys of the domain
abbrev pub domain_keys : List ℕ → List Key → List Key
domain_keys domain keys = filter (λ key. bytes_eq domain key.domain) keys

-- the replies to those calls that pass the test, in the run of all calls
abbrev pub replies_to : (Call → Bool) → List Call → Contents → List Reply
replies_to test [] store = []
replies_to test (call ∷ calls) store =
    if test call then (step call store).reply ∷ replies_to test calls (step call store).store
    else replies_to test calls (step call store).store
