-- A request has a cookie exactly if no reason excludes it.
use Rattle.std.proofs.Common.{◌≡◌, ◌↔◌, Bool, not, ◌&&◌, ◌||◌, [], bytes_eq, codes, Option, Some, None, IsTrue, if◌then◌else◌, arith}
use Rattle.url.specs.Parts.{Parts}
use Rattle.cookie_words.specs.Moments.{Moment}
use Rattle.cookie_parts.specs.Cookie.{Row, is_expired, is_http_only, is_secure_only}
use Rattle.cookie_parts.specs.Domain.{domain_matches, domain_text}
use Rattle.cookie_parts.specs.Exclusion.{exclusion, is_given}
use Rattle.cookie_parts.specs.Hosts.{is_http_scheme, is_secure}
use Rattle.cookie_parts.specs.Path.{is_absolute, path_matches}
use Rattle.cookie_parts.specs.declared.exclusion.Exclusion.{Exclusion}
use Rattle.cookie_parts.specs.declared.exclusion.Exclusion.TheVariants.{Domain, Path, Secure, HttpOnly, Expired}

-- the cascade of tests ends in `None` exactly if each of them passes
none-from_tests : (matches named absolute covers secure_only secure http_only http expired : Bool)
    → ((if not (matches && named) then Some Domain
    else if not (absolute && covers) then Some Path
    else if secure_only && not secure then Some Secure
    else if http_only && not http then Some HttpOnly
    else if expired then Some Expired
    else None) ≡ None)
    ↔ IsTrue (not expired && (matches && covers && (not secure_only || secure) && (not http_only || http)) && named && absolute)
none-from_tests matches named absolute covers secure_only secure http_only http expired = grind arith

-- no reason is found exactly if the cookie is given
pub none-is_given : (url : Parts) (now : Moment) (cookie : Row) (found : Option Exclusion)
    → found ≡ exclusion url now cookie → (found ≡ None) ↔ IsTrue (is_given url now cookie)
none-is_given url now cookie found is =
    let text = domain_text cookie.domain in
    rw is
    (none-from_tests (domain_matches cookie.domain url) (not (bytes_eq text []) && not (bytes_eq text (codes ".")))
    (is_absolute cookie.path.text) (path_matches cookie.path.text url) (is_secure_only cookie.raw) (is_secure url)
    (is_http_only cookie.raw) (is_http_scheme url) (is_expired now cookie))
