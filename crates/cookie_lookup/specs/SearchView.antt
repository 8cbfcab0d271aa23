-- What contracts know of a search, and the positions of the rows it finds.
use Rattle.std.specs.Prelude.{ℕ, zero, suc, ◌+◌, Bool, ◌&&◌, List, [], ◌∷◌, ◌++◌, Option, Some, None, option_map, slice_get, bytes_eq, is_some, count_by, if◌then◌else◌}
use Rattle.std.specs.List.{flat_map, list_any, sum_by}
use Rattle.url.specs.Parts.{Parts}
use Rattle.cookie_words.specs.Moments.{Moment}
use Rattle.cookie_parts.specs.Cookie.{Row}
use Rattle.cookie_parts.specs.Domain.{domain_text}
use Rattle.cookie_parts.specs.Hosts.{host_of}
use Rattle.cookie_laws.specs.Given.{is_given}
use Rattle.cookie_lookup.specs.Groups.{PathGroups, DomainGroups}
use Rattle.cookie_lookup.specs.Candidates.{url_candidate_domains, candidate_paths}

-- the groups, the number of lookups of domains and of paths so far, and the rows of the current
-- group: the path group found last
pub record SearchView : Type 0 where
  pub groups : DomainGroups
  pub domains : ℕ
  pub paths : ℕ
  pub current : Option (List Row)

-- the position of the group of this name, if there is one
abbrev pub group_position : {X : Type 0} → List ℕ → List (List ℕ × X) → Option ℕ
group_position text [] = None
group_position text (g ∷ gs) = if bytes_eq text g.0 then Some 0 else option_map suc (group_position text gs)

-- the content of the group at a position
abbrev pub under : {X : Type 0} → ℕ → List (List ℕ × List X) → List X
under n [] = []
under zero (g ∷ gs) = g.1
under (suc n) (g ∷ gs) = under n gs

-- the current group after a lookup with this result: unchanged if nothing was found
abbrev pub now_at : Option ℕ → PathGroups → Option (List Row) → Option (List Row)
now_at None paths current = current
now_at (Some p) paths current = Some (under p paths)

-- the rows of the current group
abbrev pub rows_in : Option (List Row) → List Row
rows_in None = []
rows_in (Some rows) = rows

-- positions of rows

-- the position of a row: of its domain, of its path in that, and of the row in that
abbrev pub RowPosition : Type 0
RowPosition = ℕ × ℕ × ℕ

-- the positions of the rows that pass the test, in order; the first row is at (d, p, n)
abbrev pub row_positions : (Row → Bool) → ℕ → ℕ → ℕ → List Row → List RowPosition
row_positions test d p n [] = []
row_positions test d p n (row ∷ rows) = if test row then (d, p, n) ∷ row_positions test d p (n + 1) rows else row_positions test d p (n + 1) rows

-- the same for the groups of a domain, the first of which is at (d, p)
abbrev pub path_positions : (Row → Bool) → ℕ → ℕ → PathGroups → List RowPosition
path_positions test d p [] = []
path_positions test d p (g ∷ gs) = row_positions test d p 0 g.1 ++ path_positions test d (p + 1) gs

-- the same for all groups, the first of which is at d
abbrev pub domain_positions : (Row → Bool) → ℕ → DomainGroups → List RowPosition
domain_positions test d [] = []
domain_positions test d (g ∷ gs) = path_positions test d 0 g.1 ++ domain_positions test (d + 1) gs

-- the positions of the rows given for the URL at this time, in order
abbrev pub given_positions : Parts → Moment → DomainGroups → List RowPosition
given_positions url now groups = domain_positions (is_given url now) 0 groups

-- the results of lookups

-- the positions under a path of the domain at d
abbrev pub at_path : (Row → Bool) → ℕ → PathGroups → List ℕ → List RowPosition
at_path test d paths text = elim (group_position text paths) [ None ↦ [] | Some p ↦ row_positions test d p 0 (under p paths) ]

-- the positions under a domain, and in it under these paths
abbrev pub at_domain : (Row → Bool) → DomainGroups → List (List ℕ) → List ℕ → List RowPosition
at_domain test groups texts text = elim (group_position text groups) [ None ↦ [] | Some d ↦ flat_map (at_path test d (under d groups)) texts ]

-- how many of these domains have a group
abbrev pub how_many_found : DomainGroups → List (List ℕ) → ℕ
how_many_found groups texts = count_by (λ text. is_some (group_position text groups)) texts

-- how many of these paths have a group in the domain
abbrev pub how_many_paths : PathGroups → List (List ℕ) → ℕ
how_many_paths paths texts = count_by (λ text. is_some (group_position text paths)) texts

-- how many of these paths have a group in this domain; 0 if the domain has none
abbrev pub paths_at_domain : DomainGroups → List (List ℕ) → List ℕ → ℕ
paths_at_domain groups texts text = elim (group_position text groups) [ None ↦ 0 | Some d ↦ how_many_paths (under d groups) texts ]

-- how many pairs of one of these domains and one of these paths have a group
abbrev pub how_many_pairs_found : DomainGroups → List (List ℕ) → List (List ℕ) → ℕ
how_many_pairs_found groups texts domains = sum_by (paths_at_domain groups texts) domains

-- the count for the URL's host, or 0 if it has no host
abbrev pub of_host : (List ℕ → ℕ) → Parts → ℕ
of_host count url = elim (host_of url) [ None ↦ 0 | Some host ↦ count host ]

-- the rows at positions

-- the row has this domain
abbrev pub has_domain : List ℕ → Row → Bool
has_domain text row = bytes_eq text (domain_text row.domain)

-- how many candidate domains of the URL are the domain of a row
abbrev pub domains_found : Parts → List Row → ℕ
domains_found url rows = count_by (λ text. list_any (has_domain text) rows) (url_candidate_domains url)

-- the row has this domain and path
abbrev pub has_domain_and_path : List ℕ → List ℕ → Row → Bool
has_domain_and_path domain path row = has_domain domain row && bytes_eq path row.path.text

-- how many pairs of a candidate domain and a candidate path of the URL are the domain and path of a
-- row
abbrev pub paths_found : Parts → List Row → ℕ
paths_found url rows =
    sum_by (λ domain. count_by (λ path. list_any (has_domain_and_path domain path) rows) (candidate_paths url.path)) (url_candidate_domains url)

-- the list of the value, if there is one
abbrev pub list_of : {X : Type 0} → Option X → List X
list_of None = []
list_of (Some x) = x ∷ []

-- the row at a position, if there is one
abbrev pub rows_at : DomainGroups → RowPosition → List Row
rows_at groups s = list_of (slice_get (under s.1 (under s.0 groups)) s.2)
