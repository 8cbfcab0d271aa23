-- Which host set a cookie whose name begins with `__Host-`, draft-ietf-httpbis-rfc6265bis 4.1.3.2.
use Rattle.std.specs.Prelude.{◌≡◌, ℕ, true, List, codes, Some}
use Rattle.url.specs.Parts.{Parts}
use Rattle.cookie_parts.specs.Cookie.{Row}
use Rattle.cookie_parts.specs.Domain.{HostOnly}
use Rattle.cookie_parts.specs.Hosts.{host_of}
use Rattle.cookie_laws.specs.Confinement.{Accepts, IsPutOrExpired}
use Rattle.cookie_laws.specs.Contents.{Contents}
use Rattle.cookie_laws.specs.Runs.{Call}
use Rattle.cookie_strict.specs.SecureUrl.{is_secure_url}
use Rattle.cookie_strict.specs.StrictRules.{has_prefix}

-- an allowed call of the run from this store accepted this cookie, which may have been expired since; its URL is secure
-- and has this host, and the cookie is a host-only cookie for it
abbrev pub HasOwnHost : List Call → Contents → Row → Type 0
HasOwnHost allowed store row =
    (place : ℕ) × (from : Parts) × (accepted : Row) × Accepts allowed store place from accepted × IsPutOrExpired accepted row
    × (host : List ℕ) × (row.domain ≡ HostOnly host) × (is_secure_url from ≡ true) × (host_of from ≡ Some host)

-- the name begins with `__Host-` only if the row has its own host
abbrev pub IsOwnIfHost : List Call → Contents → Row → Type 0
IsOwnIfHost allowed store row = has_prefix (codes "__Host-") row.raw.name ≡ true → HasOwnHost allowed store row
