-- The cookies of a request, and why it does not have a cookie, RFC 6265 5.4.
use Rattle.std.specs.Prelude.{◌≡◌, ℕ, Bool, true, false, not, ◌&&◌, List, [], bytes_eq, codes, Option, Some, None, if◌then◌else◌}
use Rattle.url.specs.Parts.{Parts}
use Rattle.cookie_words.specs.Moments.{Moment}
use Rattle.cookie_parts.specs.Cookie.{Row, cookie_matches, is_expired, is_http_only, is_secure_only}
use Rattle.cookie_parts.specs.Domain.{DomainValue, domain_matches, domain_text}
use Rattle.cookie_parts.specs.Hosts.{is_http_scheme, is_secure}
use Rattle.cookie_parts.specs.Path.{is_absolute, path_matches}
use Rattle.cookie_parts.specs.declared.exclusion.Exclusion.{Exclusion}
use Rattle.cookie_parts.specs.declared.exclusion.Exclusion.TheVariants.{Domain, Path, Secure, HttpOnly, Expired}

-- 5.4: the cookie has not expired and matches the URL (domain-match, path-match, Secure, HttpOnly);
-- besides, its domain is neither empty nor `.`, and its path begins with `/`
abbrev pub is_given : Parts → Moment → Row → Bool
is_given url now row =
    not (is_expired now row) && cookie_matches row url
    && (not (bytes_eq (domain_text row.domain) []) && not (bytes_eq (domain_text row.domain) (codes ".")))
    && is_absolute row.path.text

-- the domain matches the URL, and is neither empty nor `.`
abbrev pub is_domain_for : Parts → DomainValue → Bool
is_domain_for url domain =
    domain_matches domain url
    && (not (bytes_eq (domain_text domain) []) && not (bytes_eq (domain_text domain) (codes ".")))

-- the path begins with `/` and matches the URL
abbrev pub is_path_for : Parts → List ℕ → Bool
is_path_for url path = is_absolute path && path_matches path url

-- the request to this URL at this time does not have the cookie for this reason
abbrev pub IsExcluded : Exclusion → Parts → Moment → Row → Type 0
IsExcluded Domain url now cookie = is_domain_for url cookie.domain ≡ false
IsExcluded Path url now cookie = is_path_for url cookie.path.text ≡ false
IsExcluded Secure url now cookie = (is_secure_only cookie.raw ≡ true) × (is_secure url ≡ false)
IsExcluded HttpOnly url now cookie = (is_http_only cookie.raw ≡ true) × (is_http_scheme url ≡ false)
IsExcluded Expired url now cookie = is_expired now cookie ≡ true

-- 5.4: the first reason why the request to this URL at this time does not have the cookie
abbrev pub exclusion : Parts → Moment → Row → Option Exclusion
exclusion url now cookie =
    if not (is_domain_for url cookie.domain) then Some Domain
    else if not (is_path_for url cookie.path.text) then Some Path
    else if is_secure_only cookie.raw && not (is_secure url) then Some Secure
    else if is_http_only cookie.raw && not (is_http_scheme url) then Some HttpOnly
    else if is_expired now cookie then Some Expired
    else None

-- the message of an exclusion
abbrev pub exclusion_text : Exclusion → List ℕ
exclusion_text Domain = codes "domain does not match"
exclusion_text Path = codes "path does not match"
exclusion_text Secure = codes "Secure cookie, but the URL is not secure"
exclusion_text HttpOnly = codes "HttpOnly cookie, but the URL is not an HTTP one"
exclusion_text Expired = codes "expired"
