-- A row whose name begins with `__Http-` or `__Host-Http-` was set by a secure URL with an HTTP scheme.
use Rattle.std.proofs.Common.{◌≡◌, true, false, ◌&&◌, List, Option, ⊎_elim, sym, ap, subst, refl, ◌∙◌, arith}
use Rattle.std.proofs.lemmas.Bool.{and_parts}
use Rattle.url.specs.Parts.{Parts}
use Rattle.cookie_psl.specs.Rules.{RuleList}
use Rattle.cookie_raw.specs.Raw.{Raw}
use Rattle.cookie_parts.specs.Cookie.{Row, is_http_only, is_out_of_reach, is_secure_only}
use Rattle.cookie_parts.specs.Hosts.{is_http_scheme}
use Rattle.cookie_laws.specs.Confinement.{Offers, WasAccepted}
use Rattle.cookie_laws.specs.Contents.{Contents}
use Rattle.cookie_laws.specs.Runs.{Call, Set, Insert, Remove, Clear}
use Rattle.cookie_strict.specs.HttpPrefix.{IsSetByHttpIfNamed}
use Rattle.cookie_strict.specs.SecureUrl.{is_secure_url}
use Rattle.cookie_strict.specs.StrictRules.{has_http_prefix}
use Rattle.cookie_strict.specs.StrictRuns.{allowed_calls}
use Rattle.cookie_strict.proofs.AdmittedCookies.{admitted_reach, admitted_same}
use Rattle.cookie_strict.proofs.AllowedCalls.{proper_at, IsProper}

-- an accepted cookie named so is Secure and HttpOnly, and its URL is secure and has an HTTP scheme
abbrev ComesByHttp : Parts → Row → Type 0
ComesByHttp from cookie = has_http_prefix cookie.raw.name ≡ true
    → (is_secure_only cookie.raw ≡ true) × (is_http_only cookie.raw ≡ true) × (is_secure_url from ≡ true) × (is_http_scheme from ≡ true)

offered_http : (suffixes : Option RuleList) (call : Call) (from : Parts) (cookie : Row) → IsProper suffixes call → Offers suffixes call from cookie
    → ComesByHttp from cookie
offered_http suffixes (Set text url now) from cookie proper offers named = absurd proper
offered_http suffixes (Remove key) from cookie proper offers named = absurd offers
offered_http suffixes Clear from cookie proper offers named = absurd offers
offered_http suffixes (Insert given url now) from cookie allowed (at, is) named =
    let here : ComesByHttp url cookie = λ named.
    let raw : cookie.raw ≡ given.raw = (admitted_same suffixes url given cookie is).0.raw in
    let named_given : has_http_prefix given.raw.name ≡ true = ap (λ (r : Raw). has_http_prefix r.name) (sym raw) ∙ named in
    let flags : is_secure_only given.raw && is_http_only given.raw ≡ true = grind (arith, allowed.http_prefix, named_given) in
    let parts = and_parts (is_secure_only given.raw) (is_http_only given.raw) flags in
    let secure : is_secure_url url ≡ true = grind (arith, allowed.url_is_secure, parts.0) in
    let reached : is_out_of_reach given.raw url ≡ false = admitted_reach suffixes url given cookie is in
    let http : is_http_scheme url ≡ true = grind (arith, reached, parts.1) in
    (ap is_secure_only raw ∙ parts.0, ap is_http_only raw ∙ parts.1, secure, http) in
    subst (λ place. ComesByHttp place cookie) (sym at) here named

pub accepted_http : (calls : List Call) (store : Contents) (row : Row) → WasAccepted (allowed_calls calls store) store row
    → IsSetByHttpIfNamed (allowed_calls calls store) store row
accepted_http calls store row (place, from, accepted, ((call, at, offers), replied), put) named =
    let own : ComesByHttp from accepted = offered_http store.suffixes call from accepted (proper_at store.suffixes calls store place call refl at) offers in
    let here : ComesByHttp from row = ⊎_elim (λ is. subst (ComesByHttp from) (sym is) own) (λ is. subst (ComesByHttp from) (sym is) own) put in
    let (secure, http_only, from_secure, http) = here named in
    (place, from, accepted, ((call, at, offers), replied), put, secure, http_only, from_secure, http)
