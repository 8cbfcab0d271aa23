-- A cookie given after calls came from the host it is given for, or is a domain cookie that covers both hosts.
use Rattle.std.proofs.Common.{◌≡◌, ℕ, Bool, true, false, not, List, [], Option, Some, None, Result, Ok, Err, IfOk, ◌⊎◌, ⊎_elim, inl, inr, ◌≤ℤ◌, ◌∙◌, refl, sym, ap, subst, arith}
use Rattle.std.specs.List.{All}
use Rattle.std.specs.Str.{bytes_eq}
use Rattle.std.proofs.lemmas.Bool.{and_parts, both_ways, cond_both, not-true}
use Rattle.std.proofs.lemmas.Int.{ints}
use Rattle.std.proofs.lemmas.List.Elements.{All-filter, All-nil, filter_passes}
use Rattle.std.proofs.lemmas.Slice.Eq.{bytes_eq-Decides}
use Rattle.url.specs.Parts.{Parts}
use Rattle.cookie_words.specs.Moments.{Moment, epoch, nanoseconds}
use Rattle.cookie_psl.specs.Rules.{RuleList}
use Rattle.cookie_parts.specs.Cookie.{Row, and_then, cookie_from_header, expired_row, is_expired}
use Rattle.cookie_parts.specs.Domain.{DomainValue, HostOnly, Suffix, NotPresent, Empty, domain_matches, domain_text, host_is_identical}
use Rattle.cookie_parts.specs.Hosts.{covers, host_of, passes}
use Rattle.cookie_parts.specs.declared.cookie_error.CookieError.{CookieError}
use Rattle.cookie_parts.specs.declared.cookie_error.CookieError.TheVariants.{DomainMismatch, PublicSuffix}
use Rattle.cookie_laws.specs.Acceptance.{admitted, by_domain, by_list, by_scheme, is_listed}
use Rattle.cookie_laws.specs.Confinement.{Accepts, Offers, HaveOneHost, IsConfined, IsConfinedAsPut, IsShared, IsPutOrExpired, IsUnlisted, WasAccepted}
use Rattle.cookie_laws.specs.Contents.{Contents}
use Rattle.cookie_laws.specs.Given.{given, is_given}
use Rattle.cookie_laws.specs.Runs.{Call, Set, Insert, Remove, Clear, rows_after}
use Rattle.cookie_laws.proofs.AcceptedRows.{All-rows_after}
use Rattle.cookie_laws.proofs.CoveredHosts.{Covers-covers}

-- a domain cookie has a domain that is not listed as a public suffix
abbrev pub SharesUnlisted : Option RuleList → Row → Type 0
SharesUnlisted suffixes cookie = (domain : List ℕ) → cookie.domain ≡ Suffix domain → IsUnlisted suffixes domain

-- the cookie may come from this URL
pub record MayBeReceived (suffixes : Option RuleList) (url : Parts) (cookie : Row) : Type 0 where
  pub matches : domain_matches cookie.domain url ≡ true
  pub shares : SharesUnlisted suffixes cookie

-- what holds of the cookie, if there is one
pub IfOk_at : (P : Row → Type 0) (cookie_result : Result Row CookieError) (cookie : Row) → IfOk cookie_result P → cookie_result ≡ Ok cookie → P cookie
IfOk_at P cookie_result cookie holds is = subst (λ r. IfOk r P) is holds

-- what a step after another gives
pub and_then-IfOk : (P : Row → Type 0) (cookie_result : Result Row CookieError) (next : Row → Result Row CookieError)
    → ((cookie : Row) → cookie_result ≡ Ok cookie → IfOk (next cookie) P) → IfOk (and_then cookie_result next) P
and_then-IfOk P (Ok cookie) next after = after cookie refl
and_then-IfOk P (Err rejection) next after = tt

-- step 5 admits no domain cookie with a listed domain
by_list-shares : (suffixes : Option RuleList) (url : Parts) (cookie : Row) → IfOk (by_list suffixes url cookie) (SharesUnlisted suffixes)
by_list-shares suffixes url cookie =
    let own : Row = record cookie { domain = HostOnly (domain_text cookie.domain) } in
    cond_both (not (is_listed suffixes cookie.domain)) (Ok cookie) _ (λ r. IfOk r (SharesUnlisted suffixes))
    (λ free domain is. sym (ap (is_listed suffixes) is) ∙ not-true _ free)
    (λ _. cond_both (host_is_identical cookie.domain url) (Ok own) (Err PublicSuffix) (λ r. IfOk r (SharesUnlisted suffixes))
    (λ _ domain is. cc) (λ _. tt))

-- step 6 admits what matches the host
by_domain-MayBeReceived : (suffixes : Option RuleList) (url : Parts) (cookie : Row) → SharesUnlisted suffixes cookie → IfOk (by_domain url cookie) (MayBeReceived suffixes url)
by_domain-MayBeReceived suffixes url cookie shares =
    cond_both (domain_matches cookie.domain url) (Ok cookie) (Err DomainMismatch) (λ r. IfOk r (MayBeReceived suffixes url))
    (λ matches. record { matches = matches; shares = shares }) (λ _. tt)

-- an admitted cookie may come from its URL
pub admitted-MayBeReceived : (suffixes : Option RuleList) (url : Parts) (cookie : Row) → IfOk (admitted suffixes url cookie) (MayBeReceived suffixes url)
admitted-MayBeReceived suffixes url cookie =
    let cookie_result = and_then (by_scheme url cookie) (by_list suffixes url) in
    let shares : IfOk cookie_result (SharesUnlisted suffixes) = and_then-IfOk (SharesUnlisted suffixes) (by_scheme url cookie) (by_list suffixes url) (λ passed _. by_list-shares suffixes url passed) in
    and_then-IfOk (MayBeReceived suffixes url) cookie_result (by_domain url)
    (λ passed is. by_domain-MayBeReceived suffixes url passed (IfOk_at (SharesUnlisted suffixes) cookie_result passed shares is))

-- so may the cookie that a call offers
Offers-MayBeReceived : (suffixes : Option RuleList) (call : Call) (from : Parts) (cookie : Row) → Offers suffixes call from cookie → MayBeReceived suffixes from cookie
Offers-MayBeReceived suffixes (Set text url now) from cookie offers =
    let may : MayBeReceived suffixes url cookie = IfOk_at (MayBeReceived suffixes url) (and_then (cookie_from_header text url now) (admitted suffixes url)) cookie
    (and_then-IfOk (MayBeReceived suffixes url) (cookie_from_header text url now) (admitted suffixes url) (λ cookie_result _. admitted-MayBeReceived suffixes url cookie_result))
    offers.1 in
    subst (λ place. MayBeReceived suffixes place cookie) (sym offers.0) may
Offers-MayBeReceived suffixes (Insert given url now) from cookie offers =
    let may : MayBeReceived suffixes url cookie = IfOk_at (MayBeReceived suffixes url) (admitted suffixes url given) cookie (admitted-MayBeReceived suffixes url given) offers.1 in
    subst (λ place. MayBeReceived suffixes place cookie) (sym offers.0) may
Offers-MayBeReceived suffixes (Remove key) from cookie offers = absurd offers
Offers-MayBeReceived suffixes Clear from cookie offers = absurd offers

-- a stored row remains so when it expires
ends-IsPutOrExpired : (accepted row : Row) → IsPutOrExpired accepted row → IsPutOrExpired accepted (expired_row row)
ends-IsPutOrExpired accepted row (inl is) = inr (ap expired_row is)
ends-IsPutOrExpired accepted row (inr is) = inr (ap expired_row is)

-- and it has the domain that was stored
same_domain : (accepted row : Row) → IsPutOrExpired accepted row → accepted.domain ≡ row.domain
same_domain accepted row (inl is) = sym (ap (λ c. c.domain) is)
same_domain accepted row (inr is) = sym (ap (λ c. c.domain) is)

-- each row was stored
pub rows-accepted : (calls : List Call) (store : Contents) → store.rows ≡ [] → All (WasAccepted calls store) (rows_after calls store)
rows-accepted calls store empty =
    All-rows_after (WasAccepted calls store) (λ row was. (was.0, was.1, was.2, was.3, ends-IsPutOrExpired was.2 row was.4)) calls store
    (λ place from cookie accepts. (place, from, cookie, accepts, inl refl))
    (subst (All (WasAccepted calls store)) (sym empty) (All-nil (WasAccepted calls store)))

-- there is a value that passes
passes-value : {T : Type 0} (test : T → Bool) (value : Option T) → passes test value ≡ true → (x : T) × (value ≡ Some x) × (test x ≡ true)
passes-value test None is = cc
passes-value test (Some x) is = (x, refl, is)

-- the host of a URL that a cookie for one host alone is for
pub own_host : (host : List ℕ) (url : Parts) → domain_matches (HostOnly host) url ≡ true → host_of url ≡ Some host
own_host host url is =
    let found = passes-value (bytes_eq host) (host_of url) is in
    found.1 ∙ ap Some (sym ((bytes_eq-Decides host found.0).0 found.2))

-- a cookie that is for the hosts of two URLs is for one host, or they share it
hosts_of : (suffixes : Option RuleList) (cookie : Row) (a b : Parts) (domain : DomainValue) → cookie.domain ≡ domain → SharesUnlisted suffixes cookie
    → domain_matches domain a ≡ true → domain_matches domain b ≡ true → HaveOneHost a b ⊎ IsShared suffixes cookie a b
hosts_of suffixes cookie a b (HostOnly host) is shares first second = inl (host, own_host host a first, own_host host b second)
hosts_of suffixes cookie a b (Suffix domain) is shares first second =
    let at_a = passes-value (covers domain) (host_of a) first in
    let at_b = passes-value (covers domain) (host_of b) second in
    inr (
      domain,
      is,
      shares domain is,
      (at_a.0, at_a.1, Covers-covers domain at_a.0 at_a.2),
      (at_b.0, at_b.1, Covers-covers domain at_b.0 at_b.2),
    )
hosts_of suffixes cookie a b NotPresent is shares first second =
    let found = passes-value (λ _. false) (host_of a) first in
    cc found.2
hosts_of suffixes cookie a b Empty is shares first second =
    let found = passes-value (λ _. false) (host_of a) first in
    cc found.2

-- a row that is given is for the host of the URL
given-matches : (url : Parts) (now : Moment) (row : Row) → is_given url now row ≡ true → domain_matches row.domain url ≡ true
given-matches url now row is =
    let matches = (and_parts _ _ (and_parts _ _ (and_parts _ _ is).0).0).1 in
    (and_parts _ _ (and_parts _ _ (and_parts _ _ matches).0).0).0

-- a row that was stored and is given is confined
row-confined : (url : Parts) (now : Moment) (calls : List Call) (store : Contents) (row : Row)
    → WasAccepted calls store row → is_given url now row ≡ true → IsConfined calls store url row
row-confined url now calls store row was is =
    let from = was.1 in
    let accepted = was.2 in
    let same : accepted.domain ≡ row.domain = same_domain accepted row was.4 in
    let may = Offers-MayBeReceived store.suffixes was.3.0.0 from accepted was.3.0.2 in
    let first : domain_matches row.domain from ≡ true = sym (ap (λ domain. domain_matches domain from) same) ∙ may.matches in
    let shares = λ (domain : List ℕ) (suffix : row.domain ≡ Suffix domain). may.shares domain (same ∙ suffix) in
    (was.0, from, accepted, was.3, was.4, hosts_of store.suffixes row from url row.domain refl shares first (given-matches url now row is))

-- what is given after calls from no rows is confined
pub given-confined : (url : Parts) (now : Moment) (calls : List Call) (store : Contents) → store.rows ≡ []
    → All (IsConfined calls store url) (given url now (rows_after calls store))
given-confined url now calls store empty k d within =
    let rows = rows_after calls store in
    let was = All-filter (is_given url now) (WasAccepted calls store) rows (rows-accepted calls store empty) k d within in
    row-confined url now calls store _ was (filter_passes (is_given url now) rows k d within)

-- a row that is given has not expired
given-live : (url : Parts) (now : Moment) (row : Row) → is_given url now row ≡ true → is_expired now row ≡ false
given-live url now row is = not-true (is_expired now row) (and_parts _ _ (and_parts _ _ (and_parts _ _ is).0).0).0

-- from the epoch on, an `expired_row` row has expired
expired_row-expired : (now : Moment) (row : Row) → nanoseconds epoch ≤ℤ nanoseconds now → is_expired now (expired_row row) ≡ true
expired_row-expired now row later = grind (arith, ints, later)

-- so what is given then is the cookie that was stored
confined-as_put : (url : Parts) (now : Moment) (calls : List Call) (store : Contents) (row : Row) → nanoseconds epoch ≤ℤ nanoseconds now
    → is_given url now row ≡ true → IsConfined calls store url row → IsConfinedAsPut calls store url row
confined-as_put url now calls store row later is (place, from, accepted, accepts, same, hosts) =
    ⊎_elim (λ put. (place, from, subst (Accepts calls store place from) (sym put) accepts, hosts))
    (λ ends.
    let over : is_expired now row ≡ true = ap (is_expired now) ends ∙ expired_row-expired now accepted later in
    absurd (both_ways (is_expired now row) (given-live url now row is) over))
    same

-- the cookies given after calls on no rows, from the epoch on, are confined exactly as stored
pub given-confined_as_put : (url : Parts) (now : Moment) (calls : List Call) (store : Contents) → store.rows ≡ [] → nanoseconds epoch ≤ℤ nanoseconds now
    → All (IsConfinedAsPut calls store url) (given url now (rows_after calls store))
given-confined_as_put url now calls store empty later k d within =
    confined-as_put url now calls store _ later
    (filter_passes (is_given url now) (rows_after calls store) k d within)
    (given-confined url now calls store empty k d within)
