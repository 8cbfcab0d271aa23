-- The positions found, once sorted, are those that a walk over all groups finds.
use Rattle.std.proofs.Common.{◌≡◌, ℕ, ◌+◌, ◌*◌, ◌<◌, ◌≤◌, Bool, true, false, List, [], ◌∷◌, ◌++◌, length, Some, None, refl, sym, ◌∙◌, ap, subst, inl, inr, bytes_eq, arith, IsPermutation}
use Rattle.std.specs.Prelude.{◌≢◌}
use Rattle.std.specs.List.{AllByRecursion, sum_by, list_any, flat_map}
use Rattle.std.specs.List.Sorted.{IsSortedBy}
use Rattle.std.proofs.lemmas.List.Sums.{sum_by-cons}
use Rattle.std.proofs.lemmas.List.Sorted.{sum_by-IsPermutation}
use Rattle.std.proofs.lemmas.Bool.Decides.{nat_tests}
use Rattle.url.specs.Parts.{Parts}
use Rattle.cookie_words.specs.Moments.{Moment}
use Rattle.cookie_parts.specs.Cookie.{Row}
use Rattle.cookie_parts.specs.Domain.{domain_text}
use Rattle.cookie_parts.specs.Hosts.{host_of}
use Rattle.cookie_lookup.specs.Candidates.{candidate_domains, url_candidate_domains, candidate_paths, most_paths}
use Rattle.cookie_laws.specs.Given.{is_given}
use Rattle.cookie_lookup.specs.Groups.{PathGroups, DomainGroups, AreGroups, ArePaths, Filled}
use Rattle.cookie_lookup.specs.SearchView.{RowPosition, row_positions, path_positions, domain_positions, given_positions, at_domain, how_many_found, of_host}
use Rattle.cookie_lookup.specs.Positions.{SamePositions}
use Rattle.cookie_lookup.proofs.CandidateCuts.{bool_cases}
use Rattle.cookie_lookup.proofs.PermutedPositions.{permutation_from_sums}
use Rattle.cookie_lookup.proofs.CandidateDomains.{related_differ}
use Rattle.cookie_lookup.proofs.CandidatePaths.{path_differ}
use Rattle.cookie_lookup.proofs.PositionOrder.{Ascends, ascends_append, all_append, all_weaker, is_position_before, neither_before, position_before_tests, positions_order, sorted_is}
use Rattle.cookie_lookup.proofs.LookupsAgree.{Missed, Agree, rows_sum, paths_sum, paths_agree, domains_agree}

-- the walk ascends

abbrev pub FromRow : ℕ → ℕ → ℕ → RowPosition → Type 0
FromRow d p n s = (s.0 ≡ d) × (s.1 ≡ p) × (n ≤ s.2)

abbrev pub FromPath : ℕ → ℕ → RowPosition → Type 0
FromPath d p s = (s.0 ≡ d) × (p ≤ s.1)

abbrev pub FromDomain : ℕ → RowPosition → Type 0
FromDomain d s = d ≤ s.0

row_later : (d p n : ℕ) (y : RowPosition) → FromRow d p (n + 1) y → is_position_before y (d, p, n) ≡ false
row_later d p n y h = position_before_tests y (d, p, n) ∙ grind (arith, nat_tests, h.0, h.1, h.2)

path_later : (d p : ℕ) (x y : RowPosition) → FromRow d p 0 x → FromPath d (p + 1) y → is_position_before y x ≡ false
path_later d p x y h k = position_before_tests y x ∙ grind (arith, nat_tests, h.0, h.1, k.0, k.1)

domain_later : (d : ℕ) (x y : RowPosition) → FromPath d 0 x → FromDomain (d + 1) y → is_position_before y x ≡ false
domain_later d x y h k = position_before_tests y x ∙ grind (arith, nat_tests, h.0, k)

module _ (test : Row → Bool) where
  rows_from : (d p n : ℕ) (rows : List Row) → AllByRecursion (FromRow d p n) (row_positions test d p n rows)
  rows_from d p n [] = tt
  rows_from d p n (row ∷ rows) =
      let rest = all_weaker (FromRow d p (n + 1)) (FromRow d p n) (λ s h. (h.0, h.1, omega (arith, h.2))) (row_positions test d p (n + 1) rows) (rows_from d p (n + 1) rows) in
      elim (bool_cases (test row)) [ inl e ↦ rw e ((refl, refl, omega arith), rest) | inr e ↦ rw e rest ]

  rows_ascend : (d p n : ℕ) (rows : List Row) → Ascends is_position_before (row_positions test d p n rows)
  rows_ascend d p n [] = tt
  rows_ascend d p n (row ∷ rows) =
      elim (bool_cases (test row)) [
        | inl e ↦ rw e (all_weaker (FromRow d p (n + 1)) (λ y. is_position_before y (d, p, n) ≡ false) (row_later d p n) (row_positions test d p (n + 1) rows) (rows_from d p (n + 1) rows), rows_ascend d p (n + 1) rows)
        | inr e ↦ rw e (rows_ascend d p (n + 1) rows)
      ]

  paths_from : (d p : ℕ) (paths : PathGroups) → AllByRecursion (FromPath d p) (path_positions test d p paths)
  paths_from d p [] = tt
  paths_from d p (g ∷ gs) =
      all_append (FromPath d p) (row_positions test d p 0 g.1) (path_positions test d (p + 1) gs)
      (all_weaker (FromRow d p 0) (FromPath d p) (λ s h. (h.0, omega (arith, h.1))) (row_positions test d p 0 g.1) (rows_from d p 0 g.1))
      (all_weaker (FromPath d (p + 1)) (FromPath d p) (λ s h. (h.0, omega (arith, h.1))) (path_positions test d (p + 1) gs) (paths_from d (p + 1) gs))

  paths_ascend : (d p : ℕ) (paths : PathGroups) → Ascends is_position_before (path_positions test d p paths)
  paths_ascend d p [] = tt
  paths_ascend d p (g ∷ gs) =
      ascends_append is_position_before (FromRow d p 0) (FromPath d (p + 1)) (path_later d p) (row_positions test d p 0 g.1) (path_positions test d (p + 1) gs)
      (rows_from d p 0 g.1) (paths_from d (p + 1) gs) (rows_ascend d p 0 g.1) (paths_ascend d (p + 1) gs)

  domains_from : (d : ℕ) (groups : DomainGroups) → AllByRecursion (FromDomain d) (domain_positions test d groups)
  domains_from d [] = tt
  domains_from d (g ∷ gs) =
      all_append (FromDomain d) (path_positions test d 0 g.1) (domain_positions test (d + 1) gs)
      (all_weaker (FromPath d 0) (FromDomain d) (λ s h. omega (arith, h.0)) (path_positions test d 0 g.1) (paths_from d 0 g.1))
      (all_weaker (FromDomain (d + 1)) (FromDomain d) (λ s h. omega (arith, h)) (domain_positions test (d + 1) gs) (domains_from (d + 1) gs))

  pub domains_ascend : (d : ℕ) (groups : DomainGroups) → Ascends is_position_before (domain_positions test d groups)
  domains_ascend d [] = tt
  domains_ascend d (g ∷ gs) =
      ascends_append is_position_before (FromPath d 0) (FromDomain (d + 1)) (domain_later d) (path_positions test d 0 g.1) (domain_positions test (d + 1) gs)
      (paths_from d 0 g.1) (domains_from (d + 1) gs) (paths_ascend d 0 g.1) (domains_ascend (d + 1) gs)

  -- groups that are no candidates

  none_pass : (d p n : ℕ) (rows : List Row) → AllByRecursion (λ row. test row ≡ false) rows → row_positions test d p n rows ≡ []
  none_pass d p n [] a = refl
  none_pass d p n (row ∷ rows) a = rw (a.0, none_pass d p (n + 1) rows a.1) refl

  no_paths_pass : (d p : ℕ) (paths : PathGroups) → AllByRecursion (λ g. AllByRecursion (λ row. test row ≡ false) g.1) paths → path_positions test d p paths ≡ []
  no_paths_pass d p [] a = refl
  no_paths_pass d p (g ∷ gs) a = rw (none_pass d p 0 g.1 a.0, no_paths_pass d (p + 1) gs a.1) refl

fails : (b c : Bool) → (b ≡ true → c ≡ true) → c ≡ false → b ≡ false
fails true c h k = absurd (cc (h refl))
fails false c h k = refl

-- the domain and the path of a given row are candidates of the URL
abbrev pub AreCandidates : Parts → Moment → Type 0
AreCandidates url now = (row : Row) → is_given url now row ≡ true
    → (list_any (bytes_eq (domain_text row.domain)) (url_candidate_domains url) ≡ true) × (list_any (bytes_eq row.path.text) (candidate_paths url.path) ≡ true)

module _ (url : Parts) (now : Moment) (row_filter : AreCandidates url now) where
  given_domain : (host : List ℕ) → host_of url ≡ Some host → (row : Row) → is_given url now row ≡ true → list_any (bytes_eq (domain_text row.domain)) (candidate_domains host) ≡ true
  given_domain host e row h = let r = (row_filter row h).0 in rw (url_candidate_domains, e) at r

  module _ (f : RowPosition → ℕ) where
    missed_paths : (domain : List ℕ) (d : ℕ) (paths : PathGroups) → Filled domain paths → Missed (rows_sum (is_given url now) f d) (candidate_paths url.path) paths
    missed_paths domain d [] a = tt
    missed_paths domain d (g ∷ gs) a = (
      λ none k. ap (sum_by f) (none_pass (is_given url now) d k 0 g.1
          (all_weaker (λ row. (domain_text row.domain ≡ domain) × (row.path.text ≡ g.0)) (λ row. is_given url now row ≡ false)
          (λ row is. fails (is_given url now row) (list_any (bytes_eq row.path.text) (candidate_paths url.path)) (λ h. (row_filter row h).1) (subst (λ t. list_any (bytes_eq t) (candidate_paths url.path) ≡ false) (sym is.1) none)) g.1 a.0.1)),
      missed_paths domain d gs a.1,
    )

    agree : (groups : DomainGroups) → AllByRecursion (λ g. (0 < length g.1) × ArePaths g.0 g.1) groups → Agree (is_given url now) f (candidate_paths url.path) groups
    agree [] a = tt
    agree (g ∷ gs) a =
        (λ d. paths_agree (is_given url now) f d (candidate_paths url.path) g.1 (path_differ url.path) a.0.1.0 (missed_paths g.0 d g.1 a.0.1.1), agree gs a.1)

    none_due : (host : List ℕ) → host_of url ≡ Some host → (domain : List ℕ) → list_any (bytes_eq domain) (candidate_domains host) ≡ false → (paths : PathGroups) → Filled domain paths
        → AllByRecursion (λ g. AllByRecursion (λ row. is_given url now row ≡ false) g.1) paths
    none_due host e domain none [] a = tt
    none_due host e domain none (g ∷ gs) a = (
      all_weaker (λ row. (domain_text row.domain ≡ domain) × (row.path.text ≡ g.0)) (λ row. is_given url now row ≡ false)
          (λ row is. fails (is_given url now row) (list_any (bytes_eq (domain_text row.domain)) (candidate_domains host)) (given_domain host e row) (subst (λ t. list_any (bytes_eq t) (candidate_domains host) ≡ false) (sym is.0) none)) g.1 a.0.1,
      none_due host e domain none gs a.1,
    )

    missed_domains : (host : List ℕ) → host_of url ≡ Some host → (groups : DomainGroups) → AllByRecursion (λ g. (0 < length g.1) × ArePaths g.0 g.1) groups
        → Agree (is_given url now) f (candidate_paths url.path) groups → Missed (paths_sum (is_given url now) f (candidate_paths url.path)) (candidate_domains host) groups
    missed_domains host e [] a m = tt
    missed_domains host e (g ∷ gs) a m =
        (λ none k. m.0 k ∙ ap (sum_by f) (no_paths_pass (is_given url now) k 0 g.1 (none_due host e g.0 none g.1 a.0.1.1)), missed_domains host e gs a.1 m.1)

    pub same_sums : (host : List ℕ) → host_of url ≡ Some host → (groups : DomainGroups) → AreGroups groups
        → sum_by f (flat_map (at_domain (is_given url now) groups (candidate_paths url.path)) (candidate_domains host)) ≡ sum_by f (given_positions url now groups)
    same_sums host e groups a =
        domains_agree (is_given url now) f (candidate_domains host) (candidate_paths url.path) groups (related_differ host) a.0
        (missed_domains host e groups a.1 (agree groups a.1)) (agree groups a.1)

  -- what is found is what a walk gives, in any order
  pub found_in_any_order : (host : List ℕ) → Some host ≡ host_of url → (groups : DomainGroups) → AreGroups groups → (positions : List RowPosition)
      → SamePositions positions (flat_map (at_domain (is_given url now) groups (candidate_paths url.path)) (candidate_domains host))
      → IsPermutation (given_positions url now groups) positions
  found_in_any_order host e groups a positions same =
      permutation_from_sums (given_positions url now groups) positions (λ f. sym (same f ∙ same_sums f host (sym e) groups a))

  -- without a host nothing is due
  none_given : None ≡ host_of url → (row : Row) → is_given url now row ≡ false
  none_given e row = fails (is_given url now row) false (λ h. let r = (row_filter row h).0 in rw (url_candidate_domains, sym e) at r) refl

  pub none_found : None ≡ host_of url → (groups : DomainGroups) → [] ≡ given_positions url now groups
  none_found e groups = sym (walk 0 groups)
    where
      rows : (rows : List Row) → AllByRecursion (λ row. is_given url now row ≡ false) rows
      rows [] = tt
      rows (r ∷ rs) = (none_given e r, rows rs)

      paths : (paths : PathGroups) → AllByRecursion (λ g. AllByRecursion (λ row. is_given url now row ≡ false) g.1) paths
      paths [] = tt
      paths (g ∷ gs) = (rows g.1, paths gs)

      walk : (d : ℕ) (groups : DomainGroups) → domain_positions (is_given url now) d groups ≡ []
      walk d [] = refl
      walk d (g ∷ gs) = rw (no_paths_pass (is_given url now) d 0 g.1 (paths g.1), walk (d + 1) gs) refl

  -- if the lookups find something, a walk does
  pub some_found : (host : List ℕ) → Some host ≡ host_of url → (groups : DomainGroups) → AreGroups groups
      → flat_map (at_domain (is_given url now) groups (candidate_paths url.path)) (candidate_domains host) ≢ [] → given_positions url now groups ≢ []
  some_found host e groups a some none =
      some (nothing (flat_map (at_domain (is_given url now) groups (candidate_paths url.path)) (candidate_domains host)) (same_sums (λ _. 1) host (sym e) groups a ∙ ap (sum_by (λ _. 1)) none))
    where
      nothing : (xs : List RowPosition) → sum_by (λ _. 1) xs ≡ 0 → xs ≡ []
      nothing [] z = refl
      nothing (x ∷ xs) z = absurd (omega (arith, z, sum_by-cons (λ (_ : RowPosition). 1) x xs))

-- what is found in any order is sorted into what a walk gives
pub found_sorted : (url : Parts) (now : Moment) (groups : DomainGroups) (unsorted sorted : List RowPosition)
    → IsPermutation (given_positions url now groups) unsorted → IsPermutation unsorted sorted → IsSortedBy is_position_before sorted → sorted ≡ given_positions url now groups
found_sorted url now groups unsorted sorted moved p up =
    let all = given_positions url now groups in
    sorted_is is_position_before positions_order neither_before unsorted sorted all (λ f. sum_by-IsPermutation f all unsorted moved) (domains_ascend (is_given url now) 0 groups) p up

-- what was added to none
pub from_none : (old new more : List RowPosition) → SamePositions new (old ++ more) → old ≡ [] → SamePositions new more
from_none old new more e none = λ f. e f ∙ ap (λ s. sum_by f (s ++ more)) none

-- the bounds by the URL

pub domain_texts_are : (url : Parts) (host : List ℕ) → Some host ≡ host_of url → candidate_domains host ≡ url_candidate_domains url
domain_texts_are url host e = rw (url_candidate_domains, ← e) refl

pub paths_bound : (groups : DomainGroups) (url : Parts) (host : List ℕ) (old new : ℕ) → Some host ≡ host_of url → old ≡ 0
    → new ≤ old + how_many_found groups (candidate_domains host) * most_paths url → new ≤ how_many_found groups (url_candidate_domains url) * most_paths url
paths_bound groups url host old new e o h =
    subst (λ texts. new ≤ how_many_found groups texts * most_paths url) (domain_texts_are url host e) (omega (arith, o, h))

pub from_zero : (f : List (List ℕ) → ℕ) (url : Parts) (host : List ℕ) (old new : ℕ) → Some host ≡ host_of url → old ≡ 0 → old + f (candidate_domains host) ≤ new → f (url_candidate_domains url) ≤ new
from_zero f url host old new e o h = subst (λ texts. f texts ≤ new) (domain_texts_are url host e) (omega (arith, o, h))

pub host_from_zero : (f : List ℕ → ℕ) (url : Parts) (host : List ℕ) (old new : ℕ) → Some host ≡ host_of url → old ≡ 0 → old + f host ≤ new → of_host f url ≤ new
host_from_zero f url host old new e o h = rw (of_host, ← e) (omega (arith, o, h))
