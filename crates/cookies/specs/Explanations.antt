-- Which cookies an explanation lists, and the cells of each.
use Rattle.std.specs.Prelude.{ℕ, Bool, not, ◌||◌, List, [], ◌∷◌, ◌++◌, bytes_eq, codes, Option, Some, None, option_and_then, option_map, unwrap_or, false, if◌then◌else◌}
use Rattle.std.specs.Option.{option_or}
use Rattle.url.specs.Parts.{Parts}
use Rattle.cookie_words.specs.Moments.{Moment}
use Rattle.cookie_psl.specs.Rules.{RuleList, registrable_domain}
use Rattle.cookie_raw.specs.CookieText.{cookie_text}
use Rattle.cookie_raw.specs.Raw.{Raw}
use Rattle.cookie_parts.specs.Cookie.{Row}
use Rattle.cookie_parts.specs.Domain.{domain_text}
use Rattle.cookie_parts.specs.Exclusion.{exclusion, exclusion_text}
use Rattle.cookie_parts.specs.Hosts.{covers, host_of, is_host_name, passes}
use Rattle.cookie_store.specs.CrossSite.{is_sent}
use Rattle.cookie_store.specs.StrictRules.{breaks_prefix}
use Rattle.cookie_strict.specs.declared.context.Context.{Context}
use Rattle.cookies.specs.Cells.{domain_cell, expiry_cell, flags_cell}
use Rattle.cookies.specs.Escapes.{escaped}
use Rattle.cookies.specs.SentCookies.{is_for_suffix}

-- the registrable domain of a name
abbrev pub site_of_name : RuleList → List ℕ → Option (List ℕ)
site_of_name rules name = if is_host_name name then registrable_domain rules name else None

-- the site of a URL: the registrable domain of its host
abbrev pub site_of_url : RuleList → Parts → Option (List ℕ)
site_of_url rules url = option_and_then (site_of_name rules) (host_of url)

-- the domain is a name whose registrable domain is this site
abbrev pub is_of_site : RuleList → List ℕ → Option (List ℕ) → Bool
is_of_site rules domain site = passes (λ own. passes (λ site. bytes_eq site own) site) (site_of_name rules domain)

-- the URL has a host, and the cookie's domain is that, a parent or a subdomain of it, or is of this site
abbrev pub is_explained_for : Option (List ℕ) → RuleList → Parts → Row → Bool
is_explained_for site rules url row =
    let domain = domain_text row.domain in
    passes (λ host. covers domain host || covers host domain || is_of_site rules domain site) (host_of url)

-- the cookie is of the URL's site, or its domain is the URL's host, a parent or a subdomain of it
abbrev pub is_explained : RuleList → Parts → Row → Bool
is_explained rules url row = is_explained_for (site_of_url rules url) rules url row

-- the rule of browsers by which a request of this context does not have the cookie
abbrev pub strict_reason : Context → Row → Option (List ℕ)
strict_reason context row =
    if not (is_sent context row) then Some (codes "cross-site request, and the cookie is not SameSite=None")
    else (if breaks_prefix row then Some (codes "lacks what the prefix of its name demands") else None)

-- why the program leaves out a cookie that the URL and the time do not exclude
abbrev pub other_reason : Option Context → RuleList → Row → Option (List ℕ)
other_reason context rules row =
    if is_for_suffix rules row.domain then Some (codes "domain is a public suffix")
    else option_and_then (λ context. strict_reason context row) context

-- the first reason why the request does not have the cookie
abbrev pub unsent_reason : Option Context → RuleList → Parts → Moment → Row → Option (List ℕ)
unsent_reason context rules url now row =
    option_or (option_map exclusion_text (exclusion url now row)) (other_reason context rules row)

-- `yes`, or `no` and the reason
abbrev pub sent_cell : Option (List ℕ) → List ℕ
sent_cell None = codes "yes"
sent_cell (Some reason) = codes "no: " ++ reason

-- the cells of a cookie
abbrev pub explained_cells : Option Context → RuleList → Parts → Moment → Row → List (List ℕ)
explained_cells context rules url now row =
    domain_cell row.domain ∷ escaped row.path.text ∷ escaped row.raw.name
    ∷ expiry_cell now row.expires ∷ flags_cell row.raw ∷ sent_cell (unsent_reason context rules url now row) ∷ []

-- the cookie as a header value, with Secure only if that is set
abbrev pub as_parsed : Raw → List ℕ
as_parsed raw = cookie_text (record raw { secure = Some (unwrap_or raw.secure false) })
