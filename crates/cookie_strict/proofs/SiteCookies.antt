-- A cookie that is given under the rules came from a host whose site covers the URL's host.
use Rattle.std.proofs.Common.{◌≡◌, false, not, List, Some, ⊎_elim, inl, inr, sym, ap, subst, ◌∙◌}
use Rattle.std.specs.Prelude.{is_some}
use Rattle.std.proofs.lemmas.Bool.{and_parts, not-false}
use Rattle.url.specs.Parts.{Parts}
use Rattle.cookie_psl.specs.Rules.{RuleList, registrable_domain}
use Rattle.cookie_parts.specs.Cookie.{Row}
use Rattle.cookie_parts.specs.Hosts.{covers, passes}
use Rattle.cookie_laws.specs.Confinement.{IsConfined, IsPutOrExpired, IsShared, Offers}
use Rattle.cookie_laws.specs.Contents.{Contents}
use Rattle.cookie_laws.specs.Runs.{Call, Set, Insert, Remove, Clear}
use Rattle.cookie_strict.specs.SiteRule.{is_above_site, is_registrable_suffix, IsConfinedToSite, IsOfSite}
use Rattle.cookie_strict.specs.Sites.{site_domain}
use Rattle.cookie_strict.specs.StrictRuns.{allowed_calls}
use Rattle.cookie_strict.proofs.AllowedCalls.{proper_at, IsProper}
use Rattle.cookie_strict.proofs.RootsOfDomains.{root-covers, Covers-covers, Covers-trans}

-- the cookie that an allowed call offers is not above the site of its host
pub offered-site : (rules : RuleList) (call : Call) (from : Parts) (cookie : Row) → IsProper (Some rules) call → Offers (Some rules) call from cookie
    → is_above_site rules cookie.domain from ≡ false
offered-site rules (Set text url now) from cookie proper offers = absurd proper
offered-site rules (Remove key) from cookie proper offers = absurd offers
offered-site rules Clear from cookie proper offers = absurd offers
offered-site rules (Insert given url now) from cookie allowed (at, is) =
    subst (λ place. is_above_site rules cookie.domain place ≡ false) (sym at) (allowed.site cookie is)

-- a cookie that is or was one has its domain
pub put_domain : (accepted row : Row) → IsPutOrExpired accepted row → accepted.domain ≡ row.domain
put_domain accepted row (inl is) = sym (ap (λ (c : Row). c.domain) is)
put_domain accepted row (inr is) = sym (ap (λ (c : Row). c.domain) is)

-- so a domain cookie is of the site
shared-of_site : (rules : RuleList) (cookie : Row) (from url : Parts) → is_above_site rules cookie.domain from ≡ false
    → IsShared (Some rules) cookie from url → IsOfSite rules cookie from url
shared-of_site rules cookie from url within (domain, kind, unlisted, (own, of_from, first), (host, of_url, second)) =
    let above : not (is_registrable_suffix rules domain own) ≡ false =
    ap (λ h. not (passes (is_registrable_suffix rules domain) h)) (sym of_from) ∙ ap (λ d. is_above_site rules d from) (sym kind) ∙ within in
    let suffix = not-false (is_registrable_suffix rules domain own) above in
    let (known, site) = and_parts (is_some (registrable_domain rules domain)) (covers (site_domain rules own) domain) suffix in (
      domain,
      own,
      host,
      kind,
      of_from,
      of_url,
      first,
      second,
      Covers-trans (site_domain rules own) domain host (Covers-covers (site_domain rules own) domain site) second,
      λ name. sym (root-covers rules domain own name known first) ∙ root-covers rules domain host name known second,
    )

pub confined-to_site : (rules : RuleList) (url : Parts) (calls : List Call) (store : Contents) (cookie : Row) → store.suffixes ≡ Some rules
    → IsConfined (allowed_calls calls store) store url cookie → IsConfinedToSite rules (allowed_calls calls store) store url cookie
confined-to_site rules url calls store cookie list (place, from, accepted, ((call, at, offers), replied), put, hosts) =
    let within : is_above_site rules accepted.domain from ≡ false =
    offered-site rules call from accepted (proper_at (Some rules) calls store place call list at)
    (subst (λ suffixes. Offers suffixes call from accepted) list offers) in
    let same : is_above_site rules cookie.domain from ≡ false = ap (λ d. is_above_site rules d from) (sym (put_domain accepted cookie put)) ∙ within in (
      place,
      from,
      accepted,
      ((call, at, offers), replied),
      put,
      ⊎_elim (λ one. inl one)
          (λ shared. inr (shared-of_site rules cookie from url same (subst (λ suffixes. IsShared suffixes cookie from url) list shared)))
          hosts,
    )
