-- Which rows a domain limit evicts if Secure rows are evicted last, draft-ietf-httpbis-rfc6265bis 5.7.
use Rattle.std.specs.Prelude.{ℕ, ◌+◌, ◌-◌, Bool, not, ◌&&◌, nat_le, List, [], ◌∷◌, ◌++◌, filter, length, map, take, Option, Some, None, Result, Ok, Err}
use Rattle.url.specs.Parts.{Parts}
use Rattle.cookie_words.specs.Moments.{Moment}
use Rattle.cookie_parts.specs.Cookie.{Row, is_secure_only}
use Rattle.cookie_parts.specs.Hosts.{passes}
use Rattle.cookie_parts.specs.declared.cookie_error.CookieError.{CookieError}
use Rattle.cookie_parts.specs.declared.store_action.StoreAction.{StoreAction}
use Rattle.cookie_parts.specs.declared.store_action.StoreAction.TheVariants.{Inserted, ExpiredExisting, UpdatedExisting}
use Rattle.cookie_laws.specs.Acceptance.{accept, admitted, reply_at, store_by}
use Rattle.cookie_laws.specs.Contents.{Contents, has_expired, with_cookie, without}
use Rattle.cookie_laws.specs.Rows.{Key, is_unexpired, key_of, row_of, same_domain}
use Rattle.cookie_laws.specs.Runs.{Call, Insert, Remove}

-- the row of the key exists, has not expired and is Secure
abbrev pub is_secure_key : Moment → List Row → Key → Bool
is_secure_key now rows key = passes (λ row. is_unexpired now row && is_secure_only row.raw) (row_of key rows)

-- the row of the key has not expired and is not Secure
abbrev pub is_plain_key : Moment → List Row → Key → Bool
is_plain_key now rows key = not (has_expired now rows key) && not (is_secure_key now rows key)

-- 5.7: keys in eviction order: those of expired rows first, then those of rows that are not Secure, then the others, each
-- in the given order
abbrev pub secure_last_order : Moment → List Row → List Key → List Key
secure_last_order now rows keys =
    filter (has_expired now rows) keys ++ filter (is_plain_key now rows) keys ++ filter (is_secure_key now rows) keys

-- the keys to evict from a domain so that a new row fits the limit; `keys` are those of the domain in creation order
abbrev pub over_limit_secure_last : Option ℕ → Moment → List Row → List Key → List Key
over_limit_secure_last None now rows keys = []
over_limit_secure_last (Some limit) now rows keys = take (length keys + 1 - limit) (secure_last_order now rows keys)

-- the keys whose rows are evicted for a new row of this key
abbrev pub evicted_secure_last : Contents → Moment → Key → List Key
evicted_secure_last store now key = over_limit_secure_last store.limit now store.rows (filter (same_domain key) store.created)

-- the domain of the key has the limit of unexpired Secure rows, or more
abbrev pub is_full_of_secure : Contents → Moment → Key → Bool
is_full_of_secure store now key =
    passes (λ limit. nat_le limit (length (filter (is_secure_key now store.rows) (filter (same_domain key) store.created)))) store.limit

-- the store after each result: as without this order, but for the rows that are evicted before a cookie is added
abbrev pub store_secure_last_by : Result StoreAction CookieError → Contents → Row → Moment → Contents
store_secure_last_by (Ok Inserted) store cookie now = with_cookie (without (evicted_secure_last store now (key_of cookie)) store) cookie
store_secure_last_by (Ok UpdatedExisting) store cookie now = store_by (Ok UpdatedExisting) store cookie now
store_secure_last_by (Ok ExpiredExisting) store cookie now = store_by (Ok ExpiredExisting) store cookie now
store_secure_last_by (Err rejection) store cookie now = store

-- step 11 after the other checks: on an error the store is unchanged
abbrev pub store_after_checks_secure_last : Result Row CookieError → Parts → Moment → Contents → Contents
store_after_checks_secure_last (Err rejection) url now store = store
store_after_checks_secure_last (Ok cookie) url now store =
    store_secure_last_by (reply_at (row_of (key_of cookie) store.rows) cookie url now) store cookie now

-- 5.3 and 5.7: the store after inserting a cookie received from the URL at this time. The reply is that of `accept`
abbrev pub accept_secure_last : Contents → Row → Parts → Moment → Contents
accept_secure_last store cookie url now = store_after_checks_secure_last (admitted store.suffixes url cookie) url now store

-- the keys whose rows are evicted by an insertion with this reply
abbrev pub evicted_by : Result StoreAction CookieError → Contents → Moment → Key → List Key
evicted_by (Ok Inserted) store now key = evicted_secure_last store now key
evicted_by (Ok UpdatedExisting) store now key = []
evicted_by (Ok ExpiredExisting) store now key = []
evicted_by (Err rejection) store now key = []

-- the calls that remove the rows of these keys
abbrev pub removals : List Key → List Call
removals keys = map (λ key. Remove key) keys

-- the plain calls that leave the same store: the removals of the rows that are evicted, and then the insertion
abbrev pub secure_last_calls : Contents → Row → Parts → Moment → List Call
secure_last_calls store cookie url now =
    removals (evicted_by (accept store cookie url now).reply store now (key_of cookie)) ++ Insert cookie url now ∷ []
