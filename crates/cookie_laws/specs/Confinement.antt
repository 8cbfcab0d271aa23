-- Which host each cookie of a run came from, and which hosts it matches, RFC 6265 5.3.
use Rattle.std.specs.Prelude.{◌≡◌, ℕ, false, List, slice_get, Option, Some, Ok, ◌⊎◌}
use Rattle.url.specs.Parts.{Parts}
use Rattle.cookie_psl.specs.Rules.{RuleList, listed}
use Rattle.cookie_parts.specs.Cookie.{Row, and_then, cookie_from_header, expired_row}
use Rattle.cookie_parts.specs.Domain.{Suffix}
use Rattle.cookie_parts.specs.Hosts.{host_of, passes, Covers}
use Rattle.cookie_parts.specs.declared.store_action.StoreAction.TheVariants.{Inserted, UpdatedExisting}
use Rattle.cookie_laws.specs.Acceptance.{admitted}
use Rattle.cookie_laws.specs.Contents.{Contents}
use Rattle.cookie_laws.specs.Runs.{Call, Set, Insert, Remove, Clear, Reply, Stored, replies}

-- the call has this URL, and its cookie is admitted as this cookie
abbrev pub Offers : Option RuleList → Call → Parts → Row → Type 0
Offers suffixes (Set text url now) from cookie =
    (from ≡ url) × (and_then (cookie_from_header text url now) (admitted suffixes url) ≡ Ok cookie)
Offers suffixes (Insert given url now) from cookie = (from ≡ url) × (admitted suffixes url given ≡ Ok cookie)
Offers suffixes (Remove key) from cookie = ⊥
Offers suffixes Clear from cookie = ⊥

-- the reply reports that the call stored a cookie: `Inserted` or `UpdatedExisting`
abbrev pub RepliesStored : Option Reply → Type 0
RepliesStored reply = (reply ≡ Some (Stored (Ok Inserted))) ⊎ (reply ≡ Some (Stored (Ok UpdatedExisting)))

-- accepted: in the run of these calls from this store, the call at this position has this URL and
-- stored this cookie
abbrev pub Accepts : List Call → Contents → ℕ → Parts → Row → Type 0
Accepts calls store place from cookie =
    ((call : Call) × (slice_get calls place ≡ Some call) × Offers store.suffixes call from cookie)
    × RepliesStored (slice_get (replies calls store) place)

-- the cookie is as it was stored, or was expired since
abbrev pub IsPutOrExpired : Row → Row → Type 0
IsPutOrExpired accepted cookie = (cookie ≡ accepted) ⊎ (cookie ≡ expired_row accepted)

-- a call of the run from this store accepted this cookie, which may have been expired since
abbrev pub WasAccepted : List Call → Contents → Row → Type 0
WasAccepted calls store row =
    (place : ℕ) × (from : Parts) × (accepted : Row) × Accepts calls store place from accepted × IsPutOrExpired accepted row

-- both URLs have a host, and the hosts are equal
abbrev pub HaveOneHost : Parts → Parts → Type 0
HaveOneHost a b = (host : List ℕ) × (host_of a ≡ Some host) × (host_of b ≡ Some host)

-- 5.1.3: the URL has a host, and the domain covers it
abbrev pub CoversHostOf : List ℕ → Parts → Type 0
CoversHostOf domain url = (host : List ℕ) × (host_of url ≡ Some host) × Covers domain host

-- there is no public suffix list, or the domain is not listed as a public suffix
abbrev pub IsUnlisted : Option RuleList → List ℕ → Type 0
IsUnlisted suffixes text = passes (λ rules. listed rules text) suffixes ≡ false

-- a domain cookie whose domain is not a listed public suffix and covers the hosts of both URLs
abbrev pub IsShared : Option RuleList → Row → Parts → Parts → Type 0
IsShared suffixes cookie a b =
    (domain : List ℕ) × (cookie.domain ≡ Suffix domain) × IsUnlisted suffixes domain
    × CoversHostOf domain a × CoversHostOf domain b

-- a call of the run from this store accepted this cookie, which may have been expired since; its
-- URL and this one have the same host, or share the cookie
abbrev pub IsConfined : List Call → Contents → Parts → Row → Type 0
IsConfined calls store url cookie =
    (place : ℕ) × (from : Parts) × (accepted : Row) × Accepts calls store place from accepted
    × IsPutOrExpired accepted cookie × (HaveOneHost from url ⊎ IsShared store.suffixes cookie from url)

-- a call of the run accepted exactly this cookie, its expiry included; its URL and this one have
-- the same host, or share the cookie
abbrev pub IsConfinedAsPut : List Call → Contents → Parts → Row → Type 0
IsConfinedAsPut calls store url cookie =
    (place : ℕ) × (from : Parts) × Accepts calls store place from cookie
    × (HaveOneHost from url ⊎ IsShared store.suffixes cookie from url)
