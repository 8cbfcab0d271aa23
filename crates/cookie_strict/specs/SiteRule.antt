-- Which domain cookies a host may set under a public suffix list. draft-ietf-httpbis-rfc6265bis 5.7 rejects those for a
-- public suffix; browsers also reject those for a domain above the public suffix of the host, as HTML 7.1.1.2 has it.
use Rattle.std.specs.Prelude.{◌≡◌, ℕ, Bool, true, false, not, ◌&&◌, List, Option, Some, Result, Ok, Err, is_some, ◌⊎◌, if◌then◌else◌}
use Rattle.url.specs.Parts.{Parts}
use Rattle.cookie_psl.specs.Rules.{RuleList, registrable_domain}
use Rattle.cookie_parts.specs.Cookie.{Row, and_then}
use Rattle.cookie_parts.specs.Domain.{DomainValue, HostOnly, Suffix, NotPresent, Empty}
use Rattle.cookie_parts.specs.Hosts.{covers, host_of, is_host_name, passes, Covers}
use Rattle.cookie_parts.specs.declared.cookie_error.CookieError.{CookieError}
use Rattle.cookie_parts.specs.declared.cookie_error.CookieError.TheVariants.{PublicSuffix}
use Rattle.cookie_laws.specs.Acceptance.{admitted}
use Rattle.cookie_laws.specs.Confinement.{Accepts, HaveOneHost, IsPutOrExpired}
use Rattle.cookie_laws.specs.Contents.{Contents}
use Rattle.cookie_laws.specs.Runs.{Call}
use Rattle.cookie_strict.specs.Roots.{root_of}
use Rattle.cookie_strict.specs.Sites.{site_domain}

-- HTML 7.1.1.2, "a registrable domain suffix of or is equal to": the domain is not its own public suffix, and the
-- registrable domain of the host covers it
abbrev pub is_registrable_suffix : RuleList → List ℕ → List ℕ → Bool
is_registrable_suffix rules domain host = is_some (registrable_domain rules domain) && covers (site_domain rules host) domain

-- the domain of a domain cookie is not a registrable domain suffix of the URL's host
abbrev pub is_above_site : RuleList → DomainValue → Parts → Bool
is_above_site rules (Suffix domain) url = not (passes (is_registrable_suffix rules domain) (host_of url))
is_above_site rules (HostOnly host) url = false
is_above_site rules NotPresent url = false
is_above_site rules Empty url = false

-- with a public suffix list, a domain cookie above the site of the URL's host is rejected with `PublicSuffix`
abbrev pub by_site : Option RuleList → Parts → Row → Result Row CookieError
by_site suffixes url cookie =
    if passes (λ rules. is_above_site rules cookie.domain url) suffixes then Err PublicSuffix else Ok cookie

-- the checks that do not depend on the stored rows: the cookie to store, or the error; a cookie that the list makes
-- host-only passes `by_site`
abbrev pub admitted_by_site : Option RuleList → Parts → Row → Result Row CookieError
admitted_by_site suffixes url cookie = and_then (admitted suffixes url cookie) (by_site suffixes url)

-- a domain cookie from the first URL whose domain covers the hosts of both, and the site of the first host covers the
-- other host; if the domain is a host name, both hosts have one root
abbrev pub IsOfSite : RuleList → Row → Parts → Parts → Type 0
IsOfSite rules cookie from url =
    (domain : List ℕ) × (own : List ℕ) × (host : List ℕ) × (cookie.domain ≡ Suffix domain)
    × (host_of from ≡ Some own) × (host_of url ≡ Some host) × Covers domain own × Covers domain host
    × Covers (site_domain rules own) host × (is_host_name domain ≡ true → root_of rules own ≡ root_of rules host)

-- an allowed call of the run from this store accepted this cookie, which may have been expired since; its URL has the
-- host of this one, or the cookie is of the site of its host
abbrev pub IsConfinedToSite : RuleList → List Call → Contents → Parts → Row → Type 0
IsConfinedToSite rules allowed store url cookie =
    (place : ℕ) × (from : Parts) × (accepted : Row) × Accepts allowed store place from accepted
    × IsPutOrExpired accepted cookie × (HaveOneHost from url ⊎ IsOfSite rules cookie from url)
