-- The positions of the rows that pass a test, in the order of places.
use Rattle.std.proofs.Common.{◌≡◌, ℕ, zero, suc, ◌+◌, Bool, false, List, [], ◌∷◌, map, Some, refl, sym, ap, subst, inl, inr, if◌then◌else◌, is_lt, Greater, Ordering, IsPermutation}
use Rattle.std.specs.Prelude.{slice_get}
use Rattle.std.specs.List.{flat_map, AllByRecursion}
use Rattle.std.proofs.lemmas.List.Sorted.{IsPermutation-append, IsPermutation-refl, IsPermutation-trans}
use Rattle.cookie_parts.specs.Cookie.{Row}
use Rattle.cookie_lookup.specs.Positions.{entry_order, groups_by_position, paths_by_position, place_order, without_places, Placed, PlacedGroups, PlacedPaths}
use Rattle.cookie_lookup.specs.SearchView.{RowPosition, domain_positions, path_positions, row_positions, under}
use Rattle.cookie_lookup.proofs.CandidateCuts.{bool_cases}
use Rattle.cookie_lookup.proofs.Exchanges.{flat_map_in_any_order}
use Rattle.cookie_lookup.proofs.PositionOrder.{all_append, all_weaker, ascends_append, Ascends}
use Rattle.cookie_lookup.proofs.PlaceOrder.{entry_itself}
use Rattle.cookie_lookup.proofs.SortedByPlace.{ordered, ordered_at, ordered_moved, ordered_rise, stored, IsContentAt, RiseBy}

-- what holds of the elements of each list holds of those of the lists joined
all_joined : {X A : Type 0} (Of : X → Type 0) (P : A → Type 0) (f : X → List A) → ((x : X) → Of x → AllByRecursion P (f x)) → (xs : List X) → AllByRecursion Of xs → AllByRecursion P (flat_map f xs)
all_joined Of P f each [] of = tt
all_joined Of P f each (x ∷ xs) of = all_append P (f x) (flat_map f xs) (each x of.0) (all_joined Of P f each xs of.1)

-- what is under a position is that of the entry there
pub under_at : {A : Type 0} (gs : List (List ℕ × List A)) (n : ℕ) (g : List ℕ × List A) → slice_get gs n ≡ Some g → under n gs ≡ g.1
under_at [] n g e = absurd (cc)
under_at (h ∷ gs) zero g e = let same : h ≡ g = cc in ap (λ x. x.1) same
under_at (h ∷ gs) (suc n) g e = under_at gs n g e

module _ (test : Row → Bool) where
  -- the position of a row, if it passes
  abbrev pub row_walk : ℕ → ℕ → ℕ × Row → List RowPosition
  row_walk d p r = if test r.1 then (d, p, r.0) ∷ [] else []

  -- the positions of the rows that pass, in the order of places: of a path, of a domain, and all

  abbrev pub rows_walk : ℕ → ℕ → Placed Row → List RowPosition
  rows_walk d p rows = flat_map (row_walk d p) (ordered rows)

  abbrev pub paths_walk : ℕ → PlacedPaths Row → List RowPosition
  paths_walk d paths = flat_map (λ p. rows_walk d p.0 p.1.1) (ordered paths)

  abbrev pub all_walk : PlacedGroups Row → List RowPosition
  all_walk placed = flat_map (λ g. paths_walk g.0 g.1.1) (ordered placed)

  -- they are those of a walk over the groups as stored

  rows_stored : (d p n : ℕ) (rows : Placed Row) → row_positions test d p n (without_places rows) ≡ flat_map (row_walk d p) (stored n rows)
  rows_stored d p n [] = refl
  rows_stored d p n (r ∷ rows) = elim (bool_cases (test r.1)) [
    | inl e ↦ rw e (ap (λ s. (d, p, n) ∷ s) (rows_stored d p (n + 1) rows))
    | inr e ↦ rw e (rows_stored d p (n + 1) rows)
  ]

  rows_moved : (d p : ℕ) (rows : Placed Row) → IsPermutation (row_positions test d p 0 (without_places rows)) (rows_walk d p rows)
  rows_moved d p rows =
      subst (λ l. IsPermutation l (rows_walk d p rows)) (sym (rows_stored d p 0 rows)) (flat_map_in_any_order (row_walk d p) (stored 0 rows) (ordered rows) (ordered_moved rows))

  paths_stored : (d n : ℕ) (paths : PlacedPaths Row) → IsPermutation (path_positions test d n (paths_by_position paths)) (flat_map (λ p. rows_walk d p.0 p.1.1) (stored n paths))
  paths_stored d n [] = IsPermutation-refl []
  paths_stored d n (p ∷ paths) =
      IsPermutation-append (row_positions test d n 0 (without_places p.1.1)) (rows_walk d n p.1.1) (path_positions test d (n + 1) (paths_by_position paths))
      (flat_map (λ q. rows_walk d q.0 q.1.1) (stored (n + 1) paths)) (rows_moved d n p.1.1) (paths_stored d (n + 1) paths)

  paths_moved : (d : ℕ) (paths : PlacedPaths Row) → IsPermutation (path_positions test d 0 (paths_by_position paths)) (paths_walk d paths)
  paths_moved d paths =
      let f = λ (p : ℕ × (List ℕ × Placed Row)). rows_walk d p.0 p.1.1 in
      IsPermutation-trans (path_positions test d 0 (paths_by_position paths)) (flat_map f (stored 0 paths)) (paths_walk d paths)
      (paths_stored d 0 paths) (flat_map_in_any_order f (stored 0 paths) (ordered paths) (ordered_moved paths))

  groups_stored : (n : ℕ) (placed : PlacedGroups Row) → IsPermutation (domain_positions test n (groups_by_position placed)) (flat_map (λ g. paths_walk g.0 g.1.1) (stored n placed))
  groups_stored n [] = IsPermutation-refl []
  groups_stored n (g ∷ placed) =
      IsPermutation-append (path_positions test n 0 (paths_by_position g.1.1)) (paths_walk n g.1.1) (domain_positions test (n + 1) (groups_by_position placed))
      (flat_map (λ h. paths_walk h.0 h.1.1) (stored (n + 1) placed)) (paths_moved n g.1.1) (groups_stored (n + 1) placed)

  pub all_moved : (placed : PlacedGroups Row) → IsPermutation (domain_positions test 0 (groups_by_position placed)) (all_walk placed)
  all_moved placed =
      let f = λ (g : ℕ × (List ℕ × PlacedPaths Row)). paths_walk g.0 g.1.1 in
      IsPermutation-trans (domain_positions test 0 (groups_by_position placed)) (flat_map f (stored 0 placed)) (all_walk placed)
      (groups_stored 0 placed) (flat_map_in_any_order f (stored 0 placed) (ordered placed) (ordered_moved placed))

  -- they ascend

  -- ascending lists of positions, of entries each of which is before the next, ascend if joined
  module _ (before : RowPosition → RowPosition → Bool) (order : ℕ → ℕ → Ordering) (Of : ℕ → RowPosition → Type 0)
      (later : (m n : ℕ) (s t : RowPosition) → order n m ≡ Greater → Of m s → Of n t → before t s ≡ false) where
    joined_ascend : {X : Type 0} (f : ℕ × X → List RowPosition) → ((x : ℕ × X) → AllByRecursion (Of x.0) (f x)) → (xs : List (ℕ × X)) → RiseBy order xs
        → AllByRecursion (λ x. Ascends before (f x)) xs → Ascends before (flat_map f xs)
    joined_ascend f own [] up each = tt
    joined_ascend {X} f own (x ∷ xs) up each =
        let OfLater : RowPosition → Type 0 = λ t. (n : ℕ) × (order n x.0 ≡ Greater) × Of n t in
        ascends_append before (Of x.0) OfLater (λ s t of also. later x.0 also.0 s t also.1 of also.2) (f x) (flat_map f xs) (own x)
        (all_joined (λ (y : ℕ × X). order y.0 x.0 ≡ Greater) OfLater f (λ y greater. all_weaker (Of y.0) OfLater (λ t of. (y.0, greater, of)) (f y) (own y)) xs up.0)
        each.0 (joined_ascend f own xs up.1 each.1)

  -- the position is that of the row at n, of the path at p, of the domain at d

  abbrev OfRow : ℕ → ℕ → ℕ → RowPosition → Type 0
  OfRow d p n s = (s.0 ≡ d) × (s.1 ≡ p) × (s.2 ≡ n)

  abbrev OfPath : ℕ → ℕ → RowPosition → Type 0
  OfPath d p s = (s.0 ≡ d) × (s.1 ≡ p)

  abbrev OfDomain : ℕ → RowPosition → Type 0
  OfDomain d s = s.0 ≡ d

  -- each position is of its own row, path and domain

  row_own : (d p : ℕ) (r : ℕ × Row) → AllByRecursion (OfRow d p r.0) (row_walk d p r)
  row_own d p r = elim (bool_cases (test r.1)) [ inl e ↦ rw e ((refl, refl, refl), tt) | inr e ↦ rw e tt ]

  path_own : (d p : ℕ) (rows : List (ℕ × Row)) → AllByRecursion (OfPath d p) (flat_map (row_walk d p) rows)
  path_own d p [] = tt
  path_own d p (r ∷ rows) =
      all_append (OfPath d p) (row_walk d p r) (flat_map (row_walk d p) rows)
      (all_weaker (OfRow d p r.0) (OfPath d p) (λ s of. (of.0, of.1)) (row_walk d p r) (row_own d p r)) (path_own d p rows)

  domain_own : (d : ℕ) (paths : List (ℕ × (List ℕ × Placed Row))) → AllByRecursion (OfDomain d) (flat_map (λ p. rows_walk d p.0 p.1.1) paths)
  domain_own d [] = tt
  domain_own d (p ∷ paths) =
      all_append (OfDomain d) (rows_walk d p.0 p.1.1) (flat_map (λ q. rows_walk d q.0 q.1.1) paths)
      (all_weaker (OfPath d p.0) (OfDomain d) (λ s of. of.0) (rows_walk d p.0 p.1.1) (path_own d p.0 (ordered p.1.1))) (domain_own d paths)

  module _ (placed : PlacedGroups Row) where
    abbrev is_before : RowPosition → RowPosition → Bool
    is_before s t = is_lt (place_order placed s t)

    domain_later : (m n : ℕ) (s t : RowPosition) → entry_order placed n m ≡ Greater → OfDomain m s → OfDomain n t → is_before t s ≡ false
    domain_later m n s t greater of also = rw (of, also, greater) refl

    module _ (d : ℕ) (paths : PlacedPaths Row) (of_paths : under d (map (λ g. g.1) placed) ≡ paths) where
      path_later : (m n : ℕ) (s t : RowPosition) → entry_order paths n m ≡ Greater → OfPath d m s → OfPath d n t → is_before t s ≡ false
      path_later m n s t greater of also = rw (of.0, of.1, also.0, also.1, entry_itself placed d, of_paths, greater) refl

      module _ (p : ℕ) (rows : Placed Row) (of_rows : under p (map (λ q. q.1) paths) ≡ rows) where
        row_later : (m n : ℕ) (s t : RowPosition) → entry_order rows n m ≡ Greater → OfRow d p m s → OfRow d p n t → is_before t s ≡ false
        row_later m n s t greater of also =
            rw (of.0, of.1, of.2, also.0, also.1, also.2, entry_itself placed d, of_paths, entry_itself paths p, of_rows, greater) refl

        rows_ascend : Ascends is_before (rows_walk d p rows)
        rows_ascend = joined_ascend is_before (entry_order rows) (OfRow d p) row_later (row_walk d p) (row_own d p) (ordered rows) (ordered_rise rows) (each (ordered rows))
          where
            each : (rs : List (ℕ × Row)) → AllByRecursion (λ r. Ascends is_before (row_walk d p r)) rs
            each [] = tt
            each (r ∷ rs) = elim (bool_cases (test r.1)) [ inl e ↦ (rw e (tt, tt), each rs) | inr e ↦ (rw e tt, each rs) ]

      paths_ascend : Ascends is_before (paths_walk d paths)
      paths_ascend =
          joined_ascend is_before (entry_order paths) (OfPath d) path_later (λ p. rows_walk d p.0 p.1.1) (λ p. path_own d p.0 (ordered p.1.1)) (ordered paths) (ordered_rise paths)
          (all_weaker (IsContentAt paths) (λ p. Ascends is_before (rows_walk d p.0 p.1.1))
          (λ p at. rows_ascend p.0 p.1.1 (under_at (map (λ q. q.1) paths) p.0 p.1 at)) (ordered paths) (ordered_at paths))

    pub all_ascend : Ascends is_before (all_walk placed)
    all_ascend =
        joined_ascend is_before (entry_order placed) OfDomain domain_later (λ g. paths_walk g.0 g.1.1) (λ g. domain_own g.0 (ordered g.1.1)) (ordered placed) (ordered_rise placed)
        (all_weaker (IsContentAt placed) (λ g. Ascends is_before (paths_walk g.0 g.1.1))
        (λ g at. paths_ascend g.0 g.1.1 (under_at (map (λ h. h.1) placed) g.0 g.1 at)) (ordered placed) (ordered_at placed))
