-- How a cookie whose name begins with `__Http-` or `__Host-Http-` was set.
use Rattle.std.specs.Prelude.{◌≡◌, ℕ, true, List}
use Rattle.url.specs.Parts.{Parts}
use Rattle.cookie_parts.specs.Cookie.{Row, is_http_only, is_secure_only}
use Rattle.cookie_parts.specs.Hosts.{is_http_scheme}
use Rattle.cookie_laws.specs.Confinement.{Accepts, IsPutOrExpired}
use Rattle.cookie_laws.specs.Contents.{Contents}
use Rattle.cookie_laws.specs.Runs.{Call}
use Rattle.cookie_strict.specs.SecureUrl.{is_secure_url}
use Rattle.cookie_strict.specs.StrictRules.{has_http_prefix}

-- an allowed call of the run from this store accepted this cookie, which may have been expired since; its URL is secure
-- and has an HTTP scheme, and the cookie is Secure and HttpOnly
abbrev pub IsSetByHttp : List Call → Contents → Row → Type 0
IsSetByHttp allowed store row =
    (place : ℕ) × (from : Parts) × (accepted : Row) × Accepts allowed store place from accepted × IsPutOrExpired accepted row
    × (is_secure_only row.raw ≡ true) × (is_http_only row.raw ≡ true) × (is_secure_url from ≡ true) × (is_http_scheme from ≡ true)

-- the name begins so only if the row was set like that
abbrev pub IsSetByHttpIfNamed : List Call → Contents → Row → Type 0
IsSetByHttpIfNamed allowed store row = has_http_prefix row.raw.name ≡ true → IsSetByHttp allowed store row
