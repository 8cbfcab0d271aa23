-- Rows at the positions found, sorted by place, are the given rows in the order of places.
use Rattle.std.proofs.Common.{◌≡◌, ℕ, zero, suc, Bool, List, [], ◌∷◌, ◌++◌, map, refl, sym, ◌∙◌, ap, inl, inr, is_lt, IsPermutation}
use Rattle.std.specs.Prelude.{filter, slice_get}
use Rattle.std.specs.List.{flat_map, AllByRecursion}
use Rattle.std.specs.List.Sorted.{IsSorted}
use Rattle.std.proofs.lemmas.Grind.{flat_map-append}
use Rattle.std.proofs.lemmas.List.Sorted.{ranks_by, sum_by-IsPermutation}
use Rattle.url.specs.Parts.{Parts}
use Rattle.cookie_words.specs.Moments.{Moment}
use Rattle.cookie_parts.specs.Cookie.{Row}
use Rattle.cookie_laws.specs.Given.{given, is_given}
use Rattle.cookie_lookup.specs.Groups.{flat, flat_paths}
use Rattle.ordered_map.specs.Entries.{in_order}
use Rattle.cookie_lookup.specs.Positions.{groups_in_order, groups_by_position, paths_in_order, paths_by_position, place_order, without_places, Placed, PlacedGroups, PlacedPaths}
use Rattle.cookie_lookup.specs.SearchView.{RowPosition, given_positions, list_of, rows_at, under}
use Rattle.cookie_lookup.proofs.CandidateCuts.{bool_cases}
use Rattle.cookie_lookup.proofs.GivenRows.{filter_append}
use Rattle.cookie_lookup.proofs.PositionOrder.{all_weaker, sorted_is}
use Rattle.cookie_lookup.proofs.PlaceOrder.{neither_less, places_exact}
use Rattle.cookie_lookup.proofs.PositionsInOrder.{all_ascend, all_moved, all_walk, paths_walk, row_walk, rows_walk, under_at}
use Rattle.cookie_lookup.proofs.SortedByPlace.{ordered, ordered_at, ordered_contents, IsContentAt}

-- lists of elements that another function makes, joined
joined_map : {X Y A : Type 0} (h : Y → List A) (k : X → Y) (xs : List X) → flat_map h (map k xs) ≡ flat_map (λ x. h (k x)) xs
joined_map h k [] = refl
joined_map h k (x ∷ xs) = ap (λ s. h (k x) ++ s) (joined_map h k xs)

-- what is under a position, without places
under_without : {A B : Type 0} (h : A → B) (n : ℕ) (xs : List (ℕ × (List ℕ × List A)))
    → under n (map (λ x. (x.1.0, map h x.1.1)) xs) ≡ map h (under n (map (λ x. x.1) xs))
under_without h n [] = refl
under_without h zero (x ∷ xs) = refl
under_without h (suc n) (x ∷ xs) = under_without h n xs

module _ (test : Row → Bool) where
  -- rows at these positions are the rows that pass, in the order of places

  module _ (read : RowPosition → List Row) where
    -- if those of each entry are, those of all are
    read_joined : {X : Type 0} (f : ℕ × X → List RowPosition) (rows : X → List Row) (xs : List (ℕ × X))
        → AllByRecursion (λ y. flat_map read (f y) ≡ filter test (rows y.1)) (ordered xs) → flat_map read (flat_map f (ordered xs)) ≡ filter test (flat_map rows (in_order xs))
    read_joined f rows xs are = each (ordered xs) are ∙ ap (λ ys. filter test (flat_map rows ys)) (ordered_contents xs)
      where
        each : (ys : List (ℕ × _)) → AllByRecursion (λ y. flat_map read (f y) ≡ filter test (rows y.1)) ys → flat_map read (flat_map f ys) ≡ filter test (flat_map rows (map (λ y. y.1) ys))
        each [] are = refl
        each (y ∷ ys) are =
            flat_map-append read (f y) (flat_map f ys)
            ∙ ap (λ s. s ++ flat_map read (flat_map f ys)) are.0
            ∙ ap (λ s. filter test (rows y.1) ++ s) (each ys are.1)
            ∙ sym (filter_append test (rows y.1) (flat_map rows (map (λ z. z.1) ys)))

  module _ (placed : PlacedGroups Row) where
    row_read : (d p : ℕ) (r : ℕ × Row) → rows_at (groups_by_position placed) (d, p, r.0) ≡ r.1 ∷ [] → flat_map (rows_at (groups_by_position placed)) (row_walk test d p r) ≡ filter test (r.1 ∷ [])
    row_read d p r is = elim (bool_cases (test r.1)) [ inl e ↦ rw e (ap (λ s. s ++ []) is) | inr e ↦ rw e refl ]

    module _ (d : ℕ) (paths : PlacedPaths Row) (of_paths : under d (map (λ g. g.1) placed) ≡ paths) where
      module _ (p : ℕ) (rows : Placed Row) (of_rows : under p (map (λ q. q.1) paths) ≡ rows) where
        -- the rows of the path there
        path_rows : under p (under d (groups_by_position placed)) ≡ without_places rows
        path_rows =
            ap (under p) (under_without (λ q. (q.1.0, without_places q.1.1)) d placed ∙ ap paths_by_position of_paths)
            ∙ under_without (λ r. r.1) p paths ∙ ap without_places of_rows

        rows_read : flat_map (rows_at (groups_by_position placed)) (rows_walk test d p rows) ≡ filter test (in_order rows)
        rows_read =
            read_joined (rows_at (groups_by_position placed)) (row_walk test d p) (λ row. row ∷ []) rows
            (all_weaker (IsContentAt rows) (λ r. flat_map (rows_at (groups_by_position placed)) (row_walk test d p r) ≡ filter test (r.1 ∷ []))
            (λ r at. row_read d p r (ap (λ rs. list_of (slice_get rs r.0)) path_rows ∙ ap list_of at)) (ordered rows) (ordered_at rows))
            ∙ ap (filter test) (alone (in_order rows))
          where
            alone : (rs : List Row) → flat_map (λ row. row ∷ []) rs ≡ rs
            alone [] = refl
            alone (r ∷ rs) = ap (λ s. r ∷ s) (alone rs)

      paths_read : flat_map (rows_at (groups_by_position placed)) (paths_walk test d paths) ≡ filter test (flat_paths (paths_in_order paths))
      paths_read =
          read_joined (rows_at (groups_by_position placed)) (λ p. rows_walk test d p.0 p.1.1) (λ p. in_order p.1) paths
          (all_weaker (IsContentAt paths) (λ p. flat_map (rows_at (groups_by_position placed)) (rows_walk test d p.0 p.1.1) ≡ filter test (in_order p.1.1))
          (λ p at. rows_read p.0 p.1.1 (under_at (map (λ q. q.1) paths) p.0 p.1 at)) (ordered paths) (ordered_at paths))
          ∙ ap (filter test) (sym (joined_map (λ p. p.1) (λ p. (p.0, in_order p.1)) (in_order paths)))

    all_read : flat_map (rows_at (groups_by_position placed)) (all_walk test placed) ≡ filter test (flat (groups_in_order placed))
    all_read =
        read_joined (rows_at (groups_by_position placed)) (λ g. paths_walk test g.0 g.1.1) (λ g. flat_paths (paths_in_order g.1)) placed
        (all_weaker (IsContentAt placed) (λ g. flat_map (rows_at (groups_by_position placed)) (paths_walk test g.0 g.1.1) ≡ filter test (flat_paths (paths_in_order g.1.1)))
        (λ g at. paths_read g.0 g.1.1 (under_at (map (λ h. h.1) placed) g.0 g.1 at)) (ordered placed) (ordered_at placed))
        ∙ ap (filter test) (sym (joined_map (λ g. flat_paths g.1) (λ g. (g.0, paths_in_order g.1)) (in_order placed)))

-- the positions found, sorted, are those in the order of places, and rows there are those given
pub rows_sorted_by_place : (placed : PlacedGroups Row) (url : Parts) (now : Moment) (positions : List RowPosition)
    → IsPermutation (given_positions url now (groups_by_position placed)) positions → IsSorted (place_order placed) positions
    → flat_map (rows_at (groups_by_position placed)) positions ≡ given url now (flat (groups_in_order placed))
rows_sorted_by_place placed url now positions moved up =
    let test = is_given url now in
    let walk = given_positions url now (groups_by_position placed) in
    let is = places_exact placed in
    let found : positions ≡ all_walk test placed =
    sorted_is (λ s t. is_lt (place_order placed s t)) (ranks_by is.total (λ s. s)) (neither_less (place_order placed) is) walk positions (all_walk test placed)
    (λ f. sym (sum_by-IsPermutation f walk (all_walk test placed) (all_moved test placed))) (all_ascend test placed) moved up in
    ap (flat_map (rows_at (groups_by_position placed))) found ∙ all_read test placed
