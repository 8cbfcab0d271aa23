-- Cookies, RFC 6265 5.3 and 5.4.
use Rattle.std.specs.Prelude.{ℕ, Bool, true, false, not, ◌&&◌, ◌||◌, List, Option, Some, None, is_none, unwrap_or, Result, Ok, Err, if◌then◌else◌}
use Rattle.std.specs.Cmp.{IsEquivalence, and_equiv, on_equiv}
use Rattle.std.specs.Result.{result_map_both}
use Rattle.url.specs.Parts.{Parts}
use Rattle.cookie_words.specs.Moments.{Moment, epoch}
use Rattle.cookie_words.specs.Strings.{without_dot}
use Rattle.cookie_raw.specs.Raw.{Raw, ExpiresValue, At, pair}
use Rattle.cookie_raw.specs.SameParts.{same_parts, same_parts_equiv}
use Rattle.cookie_raw.specs.SetCookie.{reading}
use Rattle.cookie_raw.specs.declared.error.RawCookieParseError.{RawCookieParseError}
use Rattle.cookie_parts.specs.Domain.{DomainValue, domain_matches, domain_from_attribute, same_domain_value, same_domain_value_equiv}
use Rattle.cookie_parts.specs.Domain as Domain
use Rattle.cookie_parts.specs.Expiry.{Expiry, AtUtc, SessionEnd, expiry_of, has_passed, same_expiry, same_expiry_equiv}
use Rattle.cookie_parts.specs.Hosts.{host_of, is_http_scheme, is_secure}
use Rattle.cookie_parts.specs.Path.{PathValue, path_matches, path_or_default, same_path, same_path_equiv}
use Rattle.cookie_parts.specs.declared.cookie_error.CookieError.{CookieError}
use Rattle.cookie_parts.specs.declared.cookie_error.CookieError.TheVariants.{NonHttpScheme, NonRelativeScheme, DomainMismatch, Parse}

-- a cookie as contracts see it
pub record Row : Type 0 where
  pub raw : Raw
  pub domain : DomainValue
  pub path : PathValue
  pub expires : Expiry

-- 5.3 step 6, empty domain-attribute: a host-only cookie for the canonicalized request-host
abbrev pub host_only_domain : Option (List ℕ) → Result DomainValue CookieError
host_only_domain None = Err NonRelativeScheme
host_only_domain (Some host) = Ok (Domain.HostOnly host)

-- 5.3 step 6: the domain, if the request-host domain-matches it
abbrev pub if_matching : DomainValue → Parts → Result DomainValue CookieError
if_matching domain url = if domain_matches domain url then Ok domain else Err DomainMismatch

-- 5.3 step 6: the domain of a cookie received from the URL, by its Domain attribute; `Parse` if that is not a valid domain
abbrev pub domain_for : Option DomainValue → Parts → Result DomainValue CookieError
domain_for None url = Err Parse
domain_for (Some (Domain.HostOnly d)) url = if_matching (Domain.HostOnly d) url
domain_for (Some (Domain.Suffix d)) url = if_matching (Domain.Suffix d) url
domain_for (Some Domain.NotPresent) url = host_only_domain (host_of url)
domain_for (Some Domain.Empty) url = host_only_domain (host_of url)

-- the next step applied to the value of the first, or the error of the first
abbrev pub and_then : {S T E : Type 0} → Result S E → (S → Result T E) → Result T E
and_then (Ok value) next = next value
and_then (Err rejection) next = Err rejection

-- the http-only-flag
abbrev pub is_http_only : Raw → Bool
is_http_only raw = unwrap_or raw.http_only false

-- the secure-only-flag
abbrev pub is_secure_only : Raw → Bool
is_secure_only raw = unwrap_or raw.secure false

-- the cookie is HttpOnly and the scheme of the URL is not HTTP
abbrev pub is_out_of_reach : Raw → Parts → Bool
is_out_of_reach raw url = is_http_only raw && not (is_http_scheme url)

-- 5.3: the cookie of a raw cookie received from the URL at `now`, or the error
unfoldable pub cookie_of : Raw → Parts → Moment → Result Row CookieError
cookie_of raw url now =
    if is_out_of_reach raw url then Err NonHttpScheme
    else and_then (domain_for (domain_from_attribute raw.domain) url) (λ domain. Ok (record {
      raw = raw;
      domain = domain;
      path = path_or_default raw.path url;
      expires = expiry_of raw now;
    }))

-- 5.2: the raw cookie of a Set-Cookie header value, or `Parse`
abbrev pub raw_cookie : List ℕ → Result Raw CookieError
raw_cookie text = result_map_both (λ raw. raw) (λ _. Parse) (reading text)

-- the error of a raw cookie, if one is known before the domain is converted to ASCII and the path is copied
abbrev pub early_error : Raw → Parts → Option CookieError
early_error raw url =
    if is_out_of_reach raw url then Some NonHttpScheme
    else (if is_none raw.domain && is_none (host_of url) then Some NonRelativeScheme else None)

-- the same for the parse result of a Set-Cookie header value
abbrev pub early : Result Raw RawCookieParseError → Parts → Option CookieError
early (Ok raw) url = early_error raw url
early (Err rejection) url = Some Parse

-- 5.2 and 5.3: the cookie of a Set-Cookie header value received from the URL at `now`, or the error
abbrev pub cookie_from_header : List ℕ → Parts → Moment → Result Row CookieError
cookie_from_header text url now = and_then (raw_cookie text) (λ raw. cookie_of raw url now)

-- the cookie has expired at `now`
abbrev pub is_expired : Moment → Row → Bool
is_expired now cookie = has_passed now cookie.expires

-- 5.4: the cookie matches the URL: domain-match, path-match, secure-only-flag, http-only-flag
abbrev pub cookie_matches : Row → Parts → Bool
cookie_matches cookie url =
    domain_matches cookie.domain url && path_matches cookie.path.text url
    && (not (is_secure_only cookie.raw) || is_secure url) && (not (is_http_only cookie.raw) || is_http_scheme url)

-- the persistent-flag: the cookie has an expiry-time
abbrev pub is_persistent : Expiry → Bool
is_persistent (AtUtc end) = true
is_persistent SessionEnd = false

-- the cookie, expired at the epoch
abbrev pub expired_row : Row → Row
expired_row cookie = record cookie { expires = AtUtc epoch }

-- the same raw cookie, domain, path and expiry
abbrev pub same_cookie : Row → Row → Bool
same_cookie a b =
    (same_parts a.raw b.raw && same_path a.path b.path)
    && (same_domain_value a.domain b.domain && same_expiry a.expires b.expires)

-- `same_cookie` is an equivalence
pub same_cookie_equiv : IsEquivalence same_cookie
same_cookie_equiv =
    and_equiv (and_equiv (on_equiv (λ c. c.raw) same_parts_equiv) (on_equiv (λ c. c.path) same_path_equiv))
    (and_equiv (on_equiv (λ c. c.domain) same_domain_value_equiv) (on_equiv (λ c. c.expires) same_expiry_equiv))

-- the Expires attribute of a persistent cookie
abbrev pub expires_attribute : Expiry → Option ExpiresValue
expires_attribute (AtUtc end) = Some (At end)
expires_attribute SessionEnd = None

-- the Domain attribute of a domain cookie
abbrev pub domain_attribute : DomainValue → Option (List ℕ)
domain_attribute (Domain.Suffix d) = Some (without_dot d)
domain_attribute other = None

-- the Path attribute, if one set the path
abbrev pub path_attribute : PathValue → Option (List ℕ)
path_attribute path = if path.is_from_attribute then Some path.text else None

-- a cookie as a raw cookie: name, value, and Domain, Path and Expires where it has them
abbrev pub to_raw : Row → Raw
to_raw cookie = record (pair cookie.raw.name cookie.raw.value) {
  domain = domain_attribute cookie.domain;
  path = path_attribute cookie.path;
  expires = expires_attribute cookie.expires;
}
