-- The site of a URL: draft-ietf-httpbis-rfc6265bis 5.2 has it of HTML, as a scheme and a registrable domain.
use Rattle.std.specs.Prelude.{ℕ, Bool, false, ◌&&◌, List, bytes_eq, Option, Some, None, option_map, unwrap_or, if◌then◌else◌}
use Rattle.url.specs.Parts.{Parts}
use Rattle.cookie_psl.specs.Rules.{RuleList, registrable_domain}
use Rattle.cookie_parts.specs.Hosts.{host_of, is_host_name, passes}
use Rattle.cookie_strict.specs.declared.site.Site.{Site}

-- a scheme, and a registrable domain or a host
pub record SiteValue : Type 0 where
  pub scheme : List ℕ
  pub domain : List ℕ

-- the strings of a site
abbrev pub site_value : Site → SiteValue
site_value site = record { scheme = site.scheme.now; domain = site.domain.now }

-- the registrable domain of a host name; the host itself if it has none, or is an IP address
abbrev pub site_domain : RuleList → List ℕ → List ℕ
site_domain rules host = if is_host_name host then unwrap_or (registrable_domain rules host) host else host

-- the scheme and the registrable domain of a URL that has a host
abbrev pub site_of : RuleList → Parts → Option SiteValue
site_of rules url = option_map (λ host. record { scheme = url.scheme; domain = site_domain rules host }) (host_of url)

-- two sites are equal; no site is equal to none
abbrev pub are_equal_sites : Option SiteValue → Option SiteValue → Bool
are_equal_sites None second = false
are_equal_sites (Some first) None = false
are_equal_sites (Some first) (Some second) = bytes_eq first.scheme second.scheme && bytes_eq first.domain second.domain

-- 5.2: two URLs are same-site
abbrev pub is_same_site : RuleList → Parts → Parts → Bool
is_same_site rules first second = are_equal_sites (site_of rules first) (site_of rules second)

-- the hosts of two URLs are equal; no host is equal to none
abbrev pub have_one_host : Parts → Parts → Bool
have_one_host first second = passes (λ host. passes (bytes_eq host) (host_of second)) (host_of first)

-- the same under the list of a store; without one the schemes and the hosts are equal
abbrev pub is_same_site_in : Option RuleList → Parts → Parts → Bool
is_same_site_in (Some rules) first second = is_same_site rules first second
is_same_site_in None first second = bytes_eq first.scheme second.scheme && have_one_host first second
