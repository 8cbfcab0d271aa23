-- A row whose name begins with `__Host-` was set by its own host.
use Rattle.std.proofs.Common.{◌≡◌, ℕ, true, ◌&&◌, List, Option, Some, ⊎_elim, refl, sym, ap, subst, ◌∙◌, arith, codes}
use Rattle.std.proofs.lemmas.Bool.{and_parts}
use Rattle.url.specs.Parts.{Parts}
use Rattle.cookie_psl.specs.Rules.{RuleList}
use Rattle.cookie_raw.specs.Raw.{Raw}
use Rattle.cookie_parts.specs.Cookie.{Row, is_secure_only}
use Rattle.cookie_parts.specs.Domain.{DomainValue, HostOnly, Suffix, NotPresent, Empty}
use Rattle.cookie_parts.specs.Hosts.{host_of}
use Rattle.cookie_laws.specs.Confinement.{Offers, WasAccepted}
use Rattle.cookie_laws.specs.Contents.{Contents}
use Rattle.cookie_laws.specs.Runs.{Call, Set, Insert, Remove, Clear}
use Rattle.cookie_strict.specs.HostPrefix.{IsOwnIfHost}
use Rattle.cookie_strict.specs.SecureUrl.{is_secure_url}
use Rattle.cookie_strict.specs.StrictRules.{has_prefix, has_root_path, is_host_only}
use Rattle.cookie_strict.specs.StrictRuns.{allowed_calls}
use Rattle.cookie_strict.proofs.AdmittedCookies.{admitted_host, admitted_same}
use Rattle.cookie_strict.proofs.AllowedCalls.{proper_at, IsProper}

-- a host-only cookie has a host
host_of_kind : (domain : DomainValue) → is_host_only domain ≡ true → (host : List ℕ) × (domain ≡ HostOnly host)
host_of_kind (HostOnly host) is = (host, refl)
host_of_kind (Suffix domain) is = absurd (cc)
host_of_kind NotPresent is = absurd (cc)
host_of_kind Empty is = absurd (cc)

-- an accepted cookie named so has the host of its URL, which is secure
abbrev ComesFromHost : Parts → Row → Type 0
ComesFromHost from cookie = has_prefix (codes "__Host-") cookie.raw.name ≡ true
    → (host : List ℕ) × (cookie.domain ≡ HostOnly host) × (is_secure_url from ≡ true) × (host_of from ≡ Some host)

offered_host : (suffixes : Option RuleList) (call : Call) (from : Parts) (cookie : Row) → IsProper suffixes call → Offers suffixes call from cookie
    → ComesFromHost from cookie
offered_host suffixes (Set text url now) from cookie proper offers named = absurd proper
offered_host suffixes (Remove key) from cookie proper offers named = absurd offers
offered_host suffixes Clear from cookie proper offers named = absurd offers
offered_host suffixes (Insert given url now) from cookie allowed (at, is) named =
    let here : ComesFromHost url cookie = λ named.
    let named_given : has_prefix (codes "__Host-") given.raw.name ≡ true =
    ap (λ (raw : Raw). has_prefix (codes "__Host-") raw.name) (sym (admitted_same suffixes url given cookie is).0.raw) ∙ named in
    let kept : is_secure_only given.raw && (is_host_only given.domain && has_root_path given) ≡ true = grind (arith, allowed.host_prefix, named_given) in
    let parts = and_parts (is_secure_only given.raw) (is_host_only given.domain && has_root_path given) kept in
    let (host, domain) = host_of_kind given.domain (and_parts (is_host_only given.domain) (has_root_path given) parts.1).0 in
    let (own, of_url) = admitted_host suffixes url given cookie host domain is in
    let secure : is_secure_url url ≡ true = grind (arith, allowed.url_is_secure, parts.0) in
    (host, own, secure, of_url) in
    subst (λ place. ComesFromHost place cookie) (sym at) here named

pub accepted_host : (calls : List Call) (store : Contents) (row : Row) → WasAccepted (allowed_calls calls store) store row → IsOwnIfHost (allowed_calls calls store) store row
accepted_host calls store row (place, from, accepted, ((call, at, offers), replied), put) named =
    let own : ComesFromHost from accepted = offered_host store.suffixes call from accepted (proper_at store.suffixes calls store place call refl at) offers in
    let here : ComesFromHost from row = ⊎_elim (λ is. subst (ComesFromHost from) (sym is) own) (λ is. subst (ComesFromHost from) (sym is) own) put in
    let (host, domain, secure, of_url) = here named in
    (place, from, accepted, ((call, at, offers), replied), put, host, domain, secure, of_url)
