-- Which stored Secure cookies a new cookie overlays, draft-ietf-httpbis-rfc6265bis 5.7.
use Rattle.std.specs.Prelude.{ℕ, Bool, ◌&&◌, ◌||◌, List, bytes_eq}
use Rattle.cookie_words.specs.Moments.{Moment}
use Rattle.cookie_parts.specs.Cookie.{Row, is_secure_only}
use Rattle.cookie_parts.specs.Domain.{domain_text}
use Rattle.cookie_parts.specs.Hosts.{covers}
use Rattle.cookie_parts.specs.Path.{covers_path}
use Rattle.cookie_laws.specs.Rows.{has_key, is_unexpired, key_at}
use Rattle.cookie_rows.specs.SecureKeys.{ScopeValue}

-- 5.7: one of the domains covers the other
abbrev pub are_related : List ℕ → List ℕ → Bool
are_related a b = covers a b || covers b a

-- 5.7: the row is Secure and has not expired, it has the name of the cookie, one of their domains covers the other, and
-- the path of the cookie path-matches that of the row
abbrev pub is_overlaid : Row → Moment → Row → Bool
is_overlaid cookie now row =
    (is_unexpired now row && is_secure_only row.raw)
    && (bytes_eq row.raw.name cookie.raw.name
    && (are_related (domain_text row.domain) (domain_text cookie.domain) && covers_path row.path.text cookie.path.text))

-- the same, and the row is in this scope
abbrev pub is_overlaid_in : Row → Moment → ScopeValue → Row → Bool
is_overlaid_in cookie now scope row = has_key (key_at scope.domain scope.path cookie.raw.name) row && is_overlaid cookie now row
