-- The rules that the draft adds to the insertion of a cookie, draft-ietf-httpbis-rfc6265bis 5.4 and 5.7.
use Rattle.std.specs.Prelude.{ℕ, Bool, true, false, not, ◌&&◌, ◌||◌, List, bytes_eq, codes, length, take, Option, Some, None, is_some, ⊤, if◌then◌else◌}
use Rattle.std.specs.List.{list_any}
use Rattle.std.specs.Str.{str_eq_ignore_ascii_case}
use Rattle.url.specs.Parts.{Parts}
use Rattle.cookie_words.specs.Moments.{Moment}
use Rattle.cookie_raw.specs.declared.same_site.SameSite.{SameSite}
use Rattle.cookie_raw.specs.declared.same_site.SameSite.TheVariants as same_site
use Rattle.cookie_parts.specs.Cookie.{Row, is_http_only, is_secure_only}
use Rattle.cookie_parts.specs.Domain.{DomainValue, HostOnly, Suffix, NotPresent, Empty}
use Rattle.cookie_laws.specs.Contents.{Contents}
use Rattle.cookie_laws.specs.Rows.{key_of, row_of}
use Rattle.cookie_laws.specs.SecureLast.{is_full_of_secure}
use Rattle.cookie_core.specs.Overlaid.{is_overlaid}
use Rattle.cookie_strict.specs.SecureUrl.{is_secure_url}
use Rattle.cookie_strict.specs.declared.error.StrictError.{StrictError}
use Rattle.cookie_strict.specs.declared.error.StrictError.TheVariants.{InsecureUrl, InsecureSameSiteNone, Prefix, SecureStored, SecureLimit}

-- 5.7: the cookie is Secure, and the URL is not secure
abbrev pub needs_secure_url : Row → Parts → Bool
needs_secure_url cookie url = is_secure_only cookie.raw && not (is_secure_url url)

-- the SameSite attribute is None
abbrev pub is_none_site : Option SameSite → Bool
is_none_site None = false
is_none_site (Some same_site.Strict) = false
is_none_site (Some same_site.Lax) = false
is_none_site (Some same_site.None) = true

-- 5.7: the cookie has SameSite=None and is not Secure
abbrev pub needs_secure_flag : Row → Bool
needs_secure_flag cookie = is_none_site cookie.raw.same_site && not (is_secure_only cookie.raw)

-- 5.4: the name begins with the prefix, ignoring ASCII case
abbrev pub has_prefix : List ℕ → List ℕ → Bool
has_prefix prefix name = str_eq_ignore_ascii_case (take (length prefix) name) prefix

-- a host-only cookie
abbrev pub is_host_only : DomainValue → Bool
is_host_only (HostOnly host) = true
is_host_only (Suffix domain) = false
is_host_only NotPresent = false
is_host_only Empty = false

-- a Path attribute `/`
abbrev pub has_root_path : Row → Bool
has_root_path cookie = cookie.path.is_from_attribute && bytes_eq cookie.path.text (codes "/")

-- 4.1.3.1: the name begins with `__Secure-`, and the cookie is not Secure
abbrev pub breaks_secure_prefix : Row → Bool
breaks_secure_prefix cookie = has_prefix (codes "__Secure-") cookie.raw.name && not (is_secure_only cookie.raw)

-- 4.1.3.2: the name begins with `__Host-`, and the cookie is not Secure, is not host-only, or has no Path attribute `/`
abbrev pub breaks_host_prefix : Row → Bool
breaks_host_prefix cookie =
    has_prefix (codes "__Host-") cookie.raw.name
    && not (is_secure_only cookie.raw && (is_host_only cookie.domain && has_root_path cookie))

-- the name begins with `__Http-` or `__Host-Http-`
abbrev pub has_http_prefix : List ℕ → Bool
has_http_prefix name = has_prefix (codes "__Http-") name || has_prefix (codes "__Host-Http-") name

-- the name begins so, and the cookie is not Secure or not HttpOnly; browsers have this rule, the draft does not
abbrev pub breaks_http_prefix : Row → Bool
breaks_http_prefix cookie = has_http_prefix cookie.raw.name && not (is_secure_only cookie.raw && is_http_only cookie.raw)

-- 5.7: the name begins with one of these prefixes, and the cookie lacks what that prefix demands
abbrev pub breaks_prefix : Row → Bool
breaks_prefix cookie = breaks_secure_prefix cookie || (breaks_host_prefix cookie || breaks_http_prefix cookie)

-- 5.7, "leave secure cookies alone": neither the cookie nor the URL is secure, and the cookie overlays a stored one
abbrev pub overlays_secure : Row → Parts → Moment → List Row → Bool
overlays_secure cookie url now rows =
    (not (is_secure_only cookie.raw) && not (is_secure_url url)) && list_any (is_overlaid cookie now) rows

-- the cookie is not Secure and no row has its key, and its domain has the limit of unexpired Secure rows: a Secure row
-- would be evicted for it
abbrev pub evicts_secure : Row → Moment → Contents → Bool
evicts_secure cookie now store =
    not (is_secure_only cookie.raw)
    && (is_full_of_secure store now (key_of cookie) && not (is_some (row_of (key_of cookie) store.rows)))

-- the first rule that the cookie breaks, if any
abbrev pub broken_rule : Row → Parts → Moment → Contents → Option StrictError
broken_rule cookie url now store =
    if needs_secure_url cookie url then Some InsecureUrl
    else (if needs_secure_flag cookie then Some InsecureSameSiteNone
    else (if breaks_prefix cookie then Some Prefix
    else (if overlays_secure cookie url now store.rows then Some SecureStored
    else (if evicts_secure cookie now store then Some SecureLimit else None))))

-- the errors of these rules
abbrev pub IsRuleError : StrictError → Type 0
IsRuleError InsecureUrl = ⊤
IsRuleError InsecureSameSiteNone = ⊤
IsRuleError Prefix = ⊤
IsRuleError SecureStored = ⊤
IsRuleError SecureLimit = ⊤
IsRuleError other = ⊥
