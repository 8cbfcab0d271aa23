-- The remaining tests of a row that was found under a candidate domain and a candidate path, RFC 6265
-- 5.4.
use Rattle.std.specs.Prelude.{◌≡◌, ◌==◌, ℕ, Bool, false, not, ◌&&◌, ◌||◌, List, [], bytes_eq, codes, length}
use Rattle.url.specs.Parts.{Parts}
use Rattle.cookie_words.specs.Moments.{Moment}
use Rattle.cookie_parts.specs.Cookie.{Row, is_expired, is_http_only, is_secure_only}
use Rattle.cookie_parts.specs.Domain as Domain
use Rattle.cookie_parts.specs.Domain.{DomainValue, domain_text}
use Rattle.cookie_parts.specs.Hosts.{is_host_name, is_http_scheme, is_secure}
use Rattle.cookie_lookup.specs.Candidates.{IsCandidatePath}

-- the domain is neither empty nor `.`
abbrev pub is_name : List ℕ → Bool
is_name text = not (bytes_eq text []) && not (bytes_eq text (codes "."))

-- of a candidate domain: it is the host itself, and neither empty nor `.`
abbrev pub is_host : List ℕ → List ℕ → Bool
is_host text host = is_name text && (length text == length host)

-- 5.1.3, of a candidate domain: it covers the host, and is neither empty nor `.`
abbrev pub covers_host : List ℕ → List ℕ → Bool
covers_host text host = is_name text && ((length text == length host) || is_host_name host)

-- a domain of this kind matches the host; `host_only` and `suffix` are that for the two kinds with
-- a string
abbrev pub kind_matches : Bool → Bool → DomainValue → Bool
kind_matches host_only suffix (Domain.HostOnly d) = host_only
kind_matches host_only suffix (Domain.Suffix d) = suffix
kind_matches host_only suffix Domain.NotPresent = false
kind_matches host_only suffix Domain.Empty = false

-- 5.4: the domain matches the host, the cookie has not expired, a Secure cookie has a secure URL,
-- and an HttpOnly cookie an HTTP URL
abbrev pub is_given_under : Bool → Bool → Parts → Moment → Row → Bool
is_given_under host_only suffix url now row =
    kind_matches host_only suffix row.domain && not (is_expired now row)
    && (not (is_secure_only row.raw) || is_secure url) && (not (is_http_only row.raw) || is_http_scheme url)

-- two tests agree on each row of this domain whose path is a candidate path of the request path
abbrev pub AgreesUnder : List ℕ → (Row → Bool) → (Row → Bool) → List ℕ → Type 0
AgreesUnder text test other path =
    (row : Row) → domain_text row.domain ≡ text → IsCandidatePath path row.path.text → test row ≡ other row
