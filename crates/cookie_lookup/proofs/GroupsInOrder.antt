-- What is the same of groups as they are stored and in the order of places.
use Rattle.std.proofs.Common.{◌≡◌, ℕ, ◌<◌, Bool, List, [], ◌∷◌, length, map, true, sym, refl, ap, subst, inl, inr, bytes_eq, arith, if◌then◌else◌, IsPermutation}
use Rattle.std.specs.List.{flat_map, list_any, AllByRecursion}
use Rattle.std.specs.Prelude.{count_by, filter}
use Rattle.std.proofs.lemmas.List.Sorted.{length_permutation, list_any-IsPermutation, IsPermutation-append, IsPermutation-map, IsPermutation-refl, IsPermutation-sym, IsPermutation-trans}
use Rattle.std.proofs.lemmas.Bool.Decides.{nat_tests}
use Rattle.std.proofs.lemmas.Slice.Eq.{bytes_eq-Decides}
use Rattle.url.specs.Parts.{Parts}
use Rattle.cookie_words.specs.Moments.{Moment}
use Rattle.cookie_parts.specs.Cookie.{Row}
use Rattle.cookie_laws.specs.Given.{given, is_given}
use Rattle.cookie_laws.specs.Rows.{differ}
use Rattle.cookie_lookup.specs.Candidates.{candidate_paths, url_candidate_domains}
use Rattle.cookie_lookup.specs.Groups.{flat, flat_paths, AreGroups, ArePaths, DomainGroups, HasDomainAndPath, PathGroups}
use Rattle.ordered_map.specs.Entries.{by_place, in_order}
use Rattle.cookie_lookup.specs.Positions.{groups_in_order, groups_by_position, paths_in_order, paths_by_position, without_places, Placed, PlacedGroups, PlacedPaths}
use Rattle.cookie_lookup.specs.SearchView.{domains_found, given_positions, has_domain, has_domain_and_path, paths_found, rows_at, RowPosition}
use Rattle.cookie_lookup.proofs.LookupsAgree.{sum_alike}
use Rattle.cookie_lookup.proofs.Bounds.{counts_alike}
use Rattle.cookie_lookup.proofs.CandidateCuts.{bool_cases}
use Rattle.cookie_lookup.proofs.Exchanges.{all_in_any_order, differ_in_any_order, flat_map_in_any_order}
use Rattle.cookie_lookup.proofs.GivenRows.{rows_given}
use Rattle.cookie_lookup.proofs.SortedByPlace.{by_place_moved}

-- a test keeps the same rows in any order
filter_in_any_order : (test : Row → Bool) (xs ys : List Row) → IsPermutation xs ys → IsPermutation (filter test xs) (filter test ys)
filter_in_any_order test xs ys moved =
    subst (λ l. IsPermutation l (filter test ys)) (one_by_one xs)
    (subst (IsPermutation (flat_map (λ row. if test row then row ∷ [] else []) xs)) (one_by_one ys) (flat_map_in_any_order (λ row. if test row then row ∷ [] else []) xs ys moved))
  where
    one_by_one : (rows : List Row) → flat_map (λ row. if test row then row ∷ [] else []) rows ≡ filter test rows
    one_by_one [] = refl
    one_by_one (row ∷ rows) = elim (bool_cases (test row)) [
      | inl e ↦ rw e (ap (λ rest. row ∷ rest) (one_by_one rows))
      | inr e ↦ rw e (one_by_one rows)
    ]

-- entries in order and as stored, each with a function of them
module _ {X Y : Type 0} (f : X → Y) (g : ℕ × X → Y) where
  -- lists that are permutations for each entry are one, joined
  joined_moved : {A : Type 0} (h : Y → List A) → ((x : ℕ × X) → IsPermutation (h (f x.1)) (h (g x))) → (xs : List (ℕ × X))
      → IsPermutation (flat_map h (map f (in_order xs))) (flat_map h (map g xs))
  joined_moved h same xs =
      IsPermutation-trans (flat_map h (map f (in_order xs))) (flat_map h (map g (by_place xs))) (flat_map h (map g xs)) (each (by_place xs))
      (flat_map_in_any_order h (map g (by_place xs)) (map g xs) (IsPermutation-map g (by_place xs) xs (IsPermutation-sym xs (by_place xs) (by_place_moved xs))))
    where
      each : (ys : List (ℕ × X)) → IsPermutation (flat_map h (map f (map (λ y. y.1) ys))) (flat_map h (map g ys))
      each [] = IsPermutation-refl []
      each (y ∷ ys) = IsPermutation-append (h (f y.1)) (h (g y)) (flat_map h (map f (map (λ z. z.1) ys))) (flat_map h (map g ys)) (same y) (each ys)

  -- what holds of each in order holds of each as stored
  all_stored : (P : Y → Type 0) → ((x : ℕ × X) → P (f x.1) → P (g x)) → (xs : List (ℕ × X)) → AllByRecursion P (map f (in_order xs)) → AllByRecursion P (map g xs)
  all_stored P same xs are =
      all_in_any_order P (map g (by_place xs)) (map g xs) (IsPermutation-map g (by_place xs) xs (IsPermutation-sym xs (by_place xs) (by_place_moved xs))) (each (by_place xs) are)
    where
      each : (ys : List (ℕ × X)) → AllByRecursion P (map f (map (λ y. y.1) ys)) → AllByRecursion P (map g ys)
      each [] a = tt
      each (y ∷ ys) a = (same y a.0, each ys a.1)

  -- names that differ do so
  names_differ : (name : Y → List ℕ) → ((x : ℕ × X) → name (f x.1) ≡ name (g x)) → (xs : List (ℕ × X))
      → differ bytes_eq (map name (map f (in_order xs))) ≡ true → differ bytes_eq (map name (map g xs)) ≡ true
  names_differ name same xs d =
      differ_in_any_order bytes_eq flip (map name (map g (by_place xs))) (map name (map g xs))
      (IsPermutation-map name (map g (by_place xs)) (map g xs) (IsPermutation-map g (by_place xs) xs (IsPermutation-sym xs (by_place xs) (by_place_moved xs))))
      (subst (λ names. differ bytes_eq names ≡ true) (each (by_place xs)) d)
    where
      flip : (x y : List ℕ) → bytes_eq x y ≡ bytes_eq y x
      flip x y = grind (arith, nat_tests, bytes_eq-Decides x y, bytes_eq-Decides y x)

      each : (ys : List (ℕ × X)) → map name (map f (map (λ y. y.1) ys)) ≡ map name (map g ys)
      each [] = refl
      each (y ∷ ys) = rw (same y, each ys) refl

  -- if there are some in order, there are some
  some_stored : (xs : List (ℕ × X)) → 0 < length (map f (in_order xs)) → 0 < length (map g xs)
  some_stored [] some = some
  some_stored (x ∷ xs) some = omega arith

-- rows, paths and groups in order, and as stored

rows_moved : (rows : Placed Row) → IsPermutation (in_order rows) (without_places rows)
rows_moved rows = IsPermutation-map (λ r. r.1) (by_place rows) rows (IsPermutation-sym rows (by_place rows) (by_place_moved rows))

-- a path still has rows, and those of its domain and path
still_rows : (domain : List ℕ) (p : ℕ × (List ℕ × Placed Row)) → (0 < length (in_order p.1.1)) × AllByRecursion (HasDomainAndPath domain p.1.0) (in_order p.1.1)
    → (0 < length (without_places p.1.1)) × AllByRecursion (HasDomainAndPath domain p.1.0) (without_places p.1.1)
still_rows domain p are = (
  subst (λ n. 0 < n) (sym (length_permutation (in_order p.1.1) (without_places p.1.1) (rows_moved p.1.1))) are.0,
  all_in_any_order (HasDomainAndPath domain p.1.0) (in_order p.1.1) (without_places p.1.1) (rows_moved p.1.1) are.1,
)

-- a domain still has paths, which differ
still_paths : (g : ℕ × (List ℕ × PlacedPaths Row)) → (0 < length (paths_in_order g.1.1)) × ArePaths g.1.0 (paths_in_order g.1.1)
    → (0 < length (paths_by_position g.1.1)) × ArePaths g.1.0 (paths_by_position g.1.1)
still_paths g are =
    let ordered : List ℕ × Placed Row → List ℕ × List Row = λ p. (p.0, in_order p.1) in
    let without : ℕ × (List ℕ × Placed Row) → List ℕ × List Row = λ p. (p.1.0, without_places p.1.1) in (
      some_stored ordered without g.1.1 are.0,
      (
        names_differ ordered without (λ p. p.0) (λ p. refl) g.1.1 are.1.0,
        all_stored ordered without (λ p. (0 < length p.1) × AllByRecursion (HasDomainAndPath g.1.0 p.0) p.1) (still_rows g.1.0) g.1.1 are.1.1,
      ),
    )

-- what a domain and its paths are, in order and without places
abbrev ordered_group : List ℕ × PlacedPaths Row → List ℕ × PathGroups
ordered_group g = (g.0, paths_in_order g.1)

abbrev group_without : ℕ × (List ℕ × PlacedPaths Row) → List ℕ × PathGroups
group_without g = (g.1.0, paths_by_position g.1.1)

module _ (placed : PlacedGroups Row) where
  -- what holds of all groups in order does as stored
  pub still_groups : AreGroups (groups_in_order placed) → AreGroups (groups_by_position placed)
  still_groups are = (
    names_differ ordered_group group_without (λ g. g.0) (λ g. refl) placed are.0,
    all_stored ordered_group group_without (λ g. (0 < length g.1) × ArePaths g.0 g.1) still_paths placed are.1,
  )

  -- the rows are the same
  same_rows : IsPermutation (flat (groups_in_order placed)) (flat (groups_by_position placed))
  same_rows =
      joined_moved ordered_group group_without (λ g. flat_paths g.1)
      (λ g. joined_moved (λ p. (p.0, in_order p.1)) (λ p. (p.1.0, without_places p.1.1)) (λ p. p.1) (λ p. rows_moved p.1.1) g.1.1) placed

  -- whether a row passes a test is the same
  any_row : (test : Row → Bool) → list_any test (flat (groups_by_position placed)) ≡ list_any test (flat (groups_in_order placed))
  any_row test = sym (list_any-IsPermutation test (flat (groups_in_order placed)) (flat (groups_by_position placed)) same_rows)

  -- and so how many domains are found
  pub same_domains : (url : Parts) → domains_found url (flat (groups_by_position placed)) ≡ domains_found url (flat (groups_in_order placed))
  same_domains url = counts_alike (λ text. list_any (has_domain text) (flat (groups_by_position placed))) (λ text. list_any (has_domain text) (flat (groups_in_order placed)))
      (λ text. any_row (has_domain text)) (url_candidate_domains url)

  -- and how many paths in them
  pub same_paths : (url : Parts) → paths_found url (flat (groups_by_position placed)) ≡ paths_found url (flat (groups_in_order placed))
  same_paths url =
      let found : DomainGroups → List ℕ → ℕ = λ groups domain. count_by (λ path. list_any (has_domain_and_path domain path) (flat groups)) (candidate_paths url.path) in
      sum_alike (found (groups_by_position placed)) (found (groups_in_order placed))
      (λ domain. counts_alike (λ path. list_any (has_domain_and_path domain path) (flat (groups_by_position placed))) (λ path. list_any (has_domain_and_path domain path) (flat (groups_in_order placed)))
      (λ path. any_row (has_domain_and_path domain path)) (candidate_paths url.path)) (url_candidate_domains url)

  -- rows at the positions found are the rows given, in any order
  pub rows_in_any_order : (url : Parts) (now : Moment) (positions : List RowPosition) → IsPermutation (given_positions url now (groups_by_position placed)) positions
      → IsPermutation (given url now (flat (groups_in_order placed))) (flat_map (rows_at (groups_by_position placed)) positions)
  rows_in_any_order url now positions moved =
      let rows = flat_map (rows_at (groups_by_position placed)) in
      IsPermutation-trans (given url now (flat (groups_in_order placed))) (given url now (flat (groups_by_position placed))) (rows positions)
      (filter_in_any_order (is_given url now) (flat (groups_in_order placed)) (flat (groups_by_position placed)) same_rows)
      (subst (λ l. IsPermutation l (rows positions)) (rows_given (is_given url now) (groups_by_position placed))
      (flat_map_in_any_order (rows_at (groups_by_position placed)) (given_positions url now (groups_by_position placed)) positions moved))
