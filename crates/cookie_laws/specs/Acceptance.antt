-- What a store does with a cookie received from a URL, RFC 6265 5.3. The steps are checked in the
-- order 10, 5, 6, 11; the first that rejects the cookie gives the error.
use Rattle.std.specs.Prelude.{◌≡◌, Bool, not, ◌&&◌, Option, None, Result, Ok, Err, is_some, IsTrue, ⊤, ◌⊎◌, if◌then◌else◌}
use Rattle.std.specs.List.{list_any}
use Rattle.url.specs.Parts.{Parts}
use Rattle.cookie_words.specs.Moments.{Moment}
use Rattle.cookie_psl.specs.Rules.{RuleList}
use Rattle.cookie_parts.specs.Cookie.{Row, and_then, expired_row, is_expired, is_out_of_reach}
use Rattle.cookie_parts.specs.Domain.{DomainValue, HostOnly, domain_matches, domain_text, host_is_identical, is_public_suffix}
use Rattle.cookie_parts.specs.Hosts.{passes}
use Rattle.cookie_parts.specs.declared.cookie_error.CookieError.{CookieError}
use Rattle.cookie_parts.specs.declared.cookie_error.CookieError.TheVariants.{NonHttpScheme, NonRelativeScheme, DomainMismatch, Expired, Parse, PublicSuffix, UnspecifiedDomain}
use Rattle.cookie_parts.specs.declared.store_action.StoreAction.{StoreAction}
use Rattle.cookie_parts.specs.declared.store_action.StoreAction.TheVariants.{Inserted, ExpiredExisting, UpdatedExisting}
use Rattle.cookie_laws.specs.Contents.{Contents, with_cookie, evicted, without}
use Rattle.cookie_laws.specs.Rows.{Key, changed, has_key, is_unexpired, key_of, row_of, same_key}

-- the result of an insertion, and the store after it
pub record Outcome : Type 0 where
  pub reply : Result StoreAction CookieError
  pub store : Contents

-- step 10: an HttpOnly cookie from a scheme that is not HTTP is rejected with `NonHttpScheme`
abbrev pub by_scheme : Parts → Row → Result Row CookieError
by_scheme url cookie = if is_out_of_reach cookie.raw url then Err NonHttpScheme else Ok cookie

-- there is a public suffix list, and the domain is a public suffix by it
abbrev pub is_listed : Option RuleList → DomainValue → Bool
is_listed suffixes domain = passes (λ rules. is_public_suffix rules domain) suffixes

-- step 5: a cookie whose domain is a listed public suffix becomes a host-only cookie if the domain
-- is the URL's host, and is rejected with `PublicSuffix` if not
abbrev pub by_list : Option RuleList → Parts → Row → Result Row CookieError
by_list suffixes url cookie =
    if not (is_listed suffixes cookie.domain) then Ok cookie
    else (if host_is_identical cookie.domain url then Ok (record cookie { domain = HostOnly (domain_text cookie.domain) })
    else Err PublicSuffix)

-- step 6: a cookie whose domain does not domain-match the URL's host is rejected with
-- `DomainMismatch`
abbrev pub by_domain : Parts → Row → Result Row CookieError
by_domain url cookie = if domain_matches cookie.domain url then Ok cookie else Err DomainMismatch

-- the checks that do not depend on the stored rows: the cookie to store, or the error
abbrev pub admitted : Option RuleList → Parts → Row → Result Row CookieError
admitted suffixes url cookie = and_then (and_then (by_scheme url cookie) (by_list suffixes url)) (by_domain url)

-- what storing does: it updates the row of the cookie's key if there is one, and inserts the cookie
-- if not
abbrev pub put_action : Option Row → StoreAction
put_action row = if is_some row then UpdatedExisting else Inserted

-- step 11: the result for a cookie that passed the checks; `row` is the row of its key, if there is
-- one. If that row is unexpired and HttpOnly and the scheme is not HTTP: `NonHttpScheme`. If that
-- row is unexpired and the cookie is expired: `ExpiredExisting`. If the cookie is expired
-- otherwise: `Expired`. If none of these holds, the cookie is stored
abbrev pub reply_at : Option Row → Row → Parts → Moment → Result StoreAction CookieError
reply_at row cookie url now =
    if passes (λ r. is_unexpired now r && is_out_of_reach r.raw url) row then Err NonHttpScheme
    else (if passes (is_unexpired now) row && is_expired now cookie then Ok ExpiredExisting
    else (if is_expired now cookie then Err Expired
    else Ok (put_action row)))

-- the store after each result. Inserted: rows over the limit are evicted, then the cookie is added.
-- Updated: the row is replaced. ExpiredExisting: the stored row is expired. Error: unchanged
abbrev pub store_by : Result StoreAction CookieError → Contents → Row → Moment → Contents
store_by (Ok Inserted) store cookie now = with_cookie (without (evicted store now (key_of cookie)) store) cookie
store_by (Ok UpdatedExisting) store cookie now = with_cookie store cookie
store_by (Ok ExpiredExisting) store cookie now =
    record store { rows = changed (has_key (key_of cookie)) expired_row store.rows }
store_by (Err rejection) store cookie now = store

-- a result, and the store after it
abbrev pub outcome_by : Result StoreAction CookieError → Contents → Row → Moment → Outcome
outcome_by reply store cookie now = record { reply = reply; store = store_by reply store cookie now }

-- step 11 after the other checks: on an error the store is unchanged
abbrev pub outcome_after_checks : Result Row CookieError → Parts → Moment → Contents → Outcome
outcome_after_checks (Err rejection) url now store = record { reply = Err rejection; store = store }
outcome_after_checks (Ok cookie) url now store =
    outcome_by (reply_at (row_of (key_of cookie) store.rows) cookie url now) store cookie now

-- 5.3: the outcome of inserting a cookie received from the URL at this time
unfoldable pub accept : Contents → Row → Parts → Moment → Outcome
accept store cookie url now = outcome_after_checks (admitted store.suffixes url cookie) url now store

-- 5.3: the same for a cookie, or the error from creating it; on that error the store is unchanged
abbrev pub received : Contents → Result Row CookieError → Parts → Moment → Outcome
received store (Err rejection) url now = record { reply = Err rejection; store = store }
received store (Ok cookie) url now = accept store cookie url now

-- the cookie was stored: inserted, or updated an existing row
abbrev pub IsPut : Result StoreAction CookieError → Type 0
IsPut reply = (reply ≡ Ok Inserted) ⊎ (reply ≡ Ok UpdatedExisting)

-- the errors that inserting a created cookie may return
abbrev pub IsInsertionError : CookieError → Type 0
IsInsertionError NonRelativeScheme = ⊥
IsInsertionError Parse = ⊥
IsInsertionError UnspecifiedDomain = ⊥
IsInsertionError other = ⊤

-- the row of the key is evicted for a cookie that was created and is inserted
abbrev pub IsEvicted : Contents → Result Row CookieError → Parts → Moment → Key → Type 0
IsEvicted store cookie_result url now key =
    (cookie : Row) × (cookie_result ≡ Ok cookie) × ((received store cookie_result url now).reply ≡ Ok Inserted)
    × IsTrue (list_any (same_key key) (evicted store now (key_of cookie)))
    × (row_of key (received store cookie_result url now).store.rows ≡ None)
