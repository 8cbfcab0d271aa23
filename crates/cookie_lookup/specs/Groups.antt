-- Rows in groups by domain, and within a domain by path.
use Rattle.std.specs.Prelude.{ℕ, ◌≡◌, ◌<◌, true, List, length, map, bytes_eq}
use Rattle.std.specs.List.{AllByRecursion, flat_map}
use Rattle.cookie_parts.specs.Cookie.{Row}
use Rattle.cookie_parts.specs.Domain.{domain_text}
use Rattle.cookie_laws.specs.Rows.{differ}

-- the groups of a domain, each with its path
abbrev pub PathGroups : Type 0
PathGroups = List (List ℕ × List Row)

-- all groups, each with its domain
abbrev pub DomainGroups : Type 0
DomainGroups = List (List ℕ × List (List ℕ × List Row))

-- the rows of a domain, path by path
abbrev pub flat_paths : PathGroups → List Row
flat_paths paths = flat_map (λ p. p.1) paths

-- all rows, domain by domain
abbrev pub flat : DomainGroups → List Row
flat groups = flat_map (λ g. flat_paths g.1) groups

-- what holds of all groups

-- the row has this domain and path
abbrev pub HasDomainAndPath : List ℕ → List ℕ → Row → Type 0
HasDomainAndPath domain path row = (domain_text row.domain ≡ domain) × (row.path.text ≡ path)

-- each path of the domain has at least one row, and its rows have that domain and path
abbrev pub Filled : List ℕ → PathGroups → Type 0
Filled domain paths = AllByRecursion (λ p. (0 < length p.1) × AllByRecursion (HasDomainAndPath domain p.0) p.1) paths

-- in addition the paths differ
abbrev pub ArePaths : List ℕ → PathGroups → Type 0
ArePaths domain paths = (differ bytes_eq (map (λ p. p.0) paths) ≡ true) × Filled domain paths

-- the domains differ, and each has at least one group, and only groups of that domain
abbrev pub AreGroups : DomainGroups → Type 0
AreGroups groups = (differ bytes_eq (map (λ g. g.0) groups) ≡ true) × AllByRecursion (λ g. (0 < length g.1) × ArePaths g.0 g.1) groups
