-- Entries sorted by place: they are the same entries, and those of equal places stay in order.
use Rattle.std.proofs.Common.{◌≡◌, ℕ, suc, ◌+◌, ◌<◌, ◌≤◌, eqb, leb, List, [], ◌∷◌, map, Some, refl, ◌∙◌, ap, inl, inr, arith, nat_cmp, Equal, Greater, Ordering, IsPermutation}
use Rattle.std.specs.Prelude.{slice_get}
use Rattle.std.specs.List.{AllByRecursion}
use Rattle.std.specs.Ordering.{ordering_then}
use Rattle.std.proofs.lemmas.Bool.Decides.{nat_tests}
use Rattle.std.proofs.lemmas.List.Sorted.{IsPermutation-cons, IsPermutation-map, IsPermutation-middle, IsPermutation-refl, IsPermutation-trans}
use Rattle.ordered_map.specs.Entries.{by_place, in_order, insert_by_place}
use Rattle.cookie_lookup.specs.Positions.{entry_order, nth_place}
use Rattle.cookie_lookup.proofs.CandidateCuts.{bool_cases}
use Rattle.cookie_lookup.proofs.Exchanges.{all_in_any_order}

-- the entries are the same

insert_moved : {X : Type 0} (x : ℕ × X) (xs : List (ℕ × X)) → IsPermutation (x ∷ xs) (insert_by_place x xs)
insert_moved x [] = IsPermutation-refl (x ∷ [])
insert_moved x (y ∷ ys) = elim (bool_cases (leb x.0 y.0)) [
  | inl e ↦ rw e (IsPermutation-refl (x ∷ y ∷ ys))
  | inr e ↦
      rw e
      (IsPermutation-trans (x ∷ y ∷ ys) (y ∷ x ∷ ys) (y ∷ insert_by_place x ys) (IsPermutation-middle (x ∷ []) y ys)
      (IsPermutation-cons y (x ∷ ys) (insert_by_place x ys) (insert_moved x ys)))
]

pub by_place_moved : {X : Type 0} (xs : List (ℕ × X)) → IsPermutation xs (by_place xs)
by_place_moved [] = IsPermutation-refl []
by_place_moved (x ∷ xs) =
    IsPermutation-trans (x ∷ xs) (x ∷ by_place xs) (by_place (x ∷ xs)) (IsPermutation-cons x xs (by_place xs) (by_place_moved xs)) (insert_moved x (by_place xs))

-- what comes later is greater by place, or of the same place by position
later_order : (a b m n : ℕ) → a ≤ b → (b ≡ a → m < n) → ordering_then (nat_cmp b a) (nat_cmp n m) ≡ Greater
later_order a b m n below later = elim (bool_cases (eqb b a)) [
  | inl e ↦
      let same : b ≡ a = grind (arith, nat_tests, e) in
      let less : m < n = later same in
      let first : nat_cmp b a ≡ Equal = grind (arith, nat_tests, same) in
      let second : nat_cmp n m ≡ Greater = grind (arith, nat_tests, less) in
      rw (first, second) refl
  | inr e ↦
      let first : nat_cmp b a ≡ Greater = grind (arith, nat_tests, e, below) in
      rw first refl
]

module _ {X : Type 0} where
  -- entries with their positions, the first of which is n
  abbrev pub numbered : ℕ → List (ℕ × X) → List (ℕ × (ℕ × X))
  numbered n [] = []
  numbered n (x ∷ xs) = (x.0, (n, x.1)) ∷ numbered (n + 1) xs

  -- the contents with their positions, as stored
  abbrev pub stored : ℕ → List (ℕ × X) → List (ℕ × X)
  stored n xs = map (λ y. y.1) (numbered n xs)

  -- and in the order of places, in which they are the same
  abbrev pub ordered : List (ℕ × X) → List (ℕ × X)
  ordered xs = in_order (numbered 0 xs)

  pub ordered_moved : (xs : List (ℕ × X)) → IsPermutation (stored 0 xs) (ordered xs)
  ordered_moved xs = IsPermutation-map (λ y. y.1) (numbered 0 xs) (by_place (numbered 0 xs)) (by_place_moved (numbered 0 xs))

  -- without positions they are what is in order

  abbrev unnumbered : ℕ × (ℕ × X) → ℕ × X
  unnumbered y = (y.0, y.1.1)

  insert_numbered : (y : ℕ × (ℕ × X)) (ys : List (ℕ × (ℕ × X))) → map unnumbered (insert_by_place y ys) ≡ insert_by_place (unnumbered y) (map unnumbered ys)
  insert_numbered y [] = refl
  insert_numbered y (z ∷ zs) = elim (bool_cases (leb y.0 z.0)) [
    | inl e ↦ rw e refl
    | inr e ↦ rw e (ap (λ s. unnumbered z ∷ s) (insert_numbered y zs))
  ]

  sort_numbered : (n : ℕ) (xs : List (ℕ × X)) → map unnumbered (by_place (numbered n xs)) ≡ by_place xs
  sort_numbered n [] = refl
  sort_numbered n (x ∷ xs) = insert_numbered (x.0, (n, x.1)) (by_place (numbered (n + 1) xs)) ∙ ap (insert_by_place x) (sort_numbered (n + 1) xs)

  pub ordered_contents : (xs : List (ℕ × X)) → map (λ y. y.1) (ordered xs) ≡ in_order xs
  ordered_contents xs = contents (by_place (numbered 0 xs)) ∙ ap (map (λ x. x.1)) (sort_numbered 0 xs)
    where
      contents : (ys : List (ℕ × (ℕ × X))) → map (λ y. y.1) (map (λ y. y.1) ys) ≡ map (λ x. x.1) (map unnumbered ys)
      contents [] = refl
      contents (y ∷ ys) = ap (λ s. y.1.1 ∷ s) (contents ys)

  -- each entry is at its position

  abbrev IsAt : List (ℕ × X) → ℕ × (ℕ × X) → Type 0
  IsAt xs y = (nth_place xs y.1.0 ≡ y.0) × (slice_get (map (λ x. x.1) xs) y.1.0 ≡ Some y.1.1)

  numbered_at : (n : ℕ) (all xs : List (ℕ × X)) → ((k : ℕ) → nth_place all (n + k) ≡ nth_place xs k)
      → ((k : ℕ) → slice_get (map (λ x. x.1) all) (n + k) ≡ slice_get (map (λ x. x.1) xs) k) → AllByRecursion (IsAt all) (numbered n xs)
  numbered_at n all [] places contents = tt
  numbered_at n all (x ∷ xs) places contents =
      let z : n ≡ n + 0 = omega arith in (
        (ap (nth_place all) z ∙ places 0, ap (slice_get (map (λ x. x.1) all)) z ∙ contents 0),
        numbered_at (n + 1) all xs (λ k. let e : n + 1 + k ≡ n + suc k = omega arith in ap (nth_place all) e ∙ places (suc k))
            (λ k. let e : n + 1 + k ≡ n + suc k = omega arith in ap (slice_get (map (λ x. x.1) all)) e ∙ contents (suc k)),
      )

  all_at : (xs : List (ℕ × X)) → AllByRecursion (IsAt xs) (by_place (numbered 0 xs))
  all_at xs =
      all_in_any_order (IsAt xs) (numbered 0 xs) (by_place (numbered 0 xs)) (by_place_moved (numbered 0 xs))
      (numbered_at 0 xs xs (λ k. let e : 0 + k ≡ k = omega arith in ap (nth_place xs) e) (λ k. let e : 0 + k ≡ k = omega arith in ap (slice_get (map (λ x. x.1) xs)) e))

  abbrev pub IsContentAt : List (ℕ × X) → ℕ × X → Type 0
  IsContentAt xs y = slice_get (map (λ x. x.1) xs) y.0 ≡ Some y.1

  pub ordered_at : (xs : List (ℕ × X)) → AllByRecursion (IsContentAt xs) (ordered xs)
  ordered_at xs = contents (by_place (numbered 0 xs)) (all_at xs)
    where
      contents : (ys : List (ℕ × (ℕ × X))) → AllByRecursion (IsAt xs) ys → AllByRecursion (IsContentAt xs) (map (λ y. y.1) ys)
      contents [] at = tt
      contents (y ∷ ys) at = (at.0.1, contents ys at.1)

  -- they ascend by place, and those of equal places by position

  abbrev IsBefore : ℕ × (ℕ × X) → ℕ × (ℕ × X) → Type 0
  IsBefore y z = (y.0 ≤ z.0) × (z.0 ≡ y.0 → y.1.0 < z.1.0)

  abbrev Rise : List (ℕ × (ℕ × X)) → Type 0
  Rise [] = Unit {0}
  Rise (y ∷ ys) = AllByRecursion (IsBefore y) ys × Rise ys

  -- an entry is before those with greater positions whose places are not less
  before_all : (x y : ℕ × (ℕ × X)) → x.0 ≤ y.0 → (zs : List (ℕ × (ℕ × X))) → AllByRecursion (λ z. x.1.0 < z.1.0) zs → AllByRecursion (IsBefore y) zs → AllByRecursion (IsBefore x) zs
  before_all x y below [] later up = tt
  before_all x y below (z ∷ zs) later up = ((omega (arith, below, up.0.0), λ _. later.0), before_all x y below zs later.1 up.1)

  insert_rises : (x : ℕ × (ℕ × X)) (ys : List (ℕ × (ℕ × X))) → AllByRecursion (λ z. x.1.0 < z.1.0) ys → Rise ys → Rise (insert_by_place x ys)
  insert_rises x [] later up = (tt, tt)
  insert_rises x (y ∷ ys) later up = elim (bool_cases (leb x.0 y.0)) [
    | inl e ↦
        let below : x.0 ≤ y.0 = grind (arith, nat_tests, e) in
        rw e (((below, λ _. later.0), before_all x y below ys later.1 up.0), up)
    | inr e ↦
        let above : y.0 < x.0 = grind (arith, nat_tests, e) in
        rw e (
          all_in_any_order (IsBefore y) (x ∷ ys) (insert_by_place x ys) (insert_moved x ys) ((omega (arith, above), λ same. absurd (omega (arith, above, same))), up.0),
          insert_rises x ys later.1 up.1,
        )
  ]

  -- positions are at least that of the first
  positions_from : (m n : ℕ) (xs : List (ℕ × X)) → m < n → AllByRecursion (λ z. m < z.1.0) (numbered n xs)
  positions_from m n [] below = tt
  positions_from m n (x ∷ xs) below = (below, positions_from m (n + 1) xs (omega (arith, below)))

  numbered_rise : (n : ℕ) (xs : List (ℕ × X)) → Rise (by_place (numbered n xs))
  numbered_rise n [] = tt
  numbered_rise n (x ∷ xs) =
      insert_rises (x.0, (n, x.1)) (by_place (numbered (n + 1) xs))
      (all_in_any_order (λ z. n < z.1.0) (numbered (n + 1) xs) (by_place (numbered (n + 1) xs)) (by_place_moved (numbered (n + 1) xs)) (positions_from n (n + 1) xs (omega arith)))
      (numbered_rise (n + 1) xs)

  -- each is before those after it
  abbrev pub RiseBy : (ℕ → ℕ → Ordering) → List (ℕ × X) → Type 0
  RiseBy order [] = Unit {0}
  RiseBy order (y ∷ ys) = AllByRecursion (λ z. order z.0 y.0 ≡ Greater) ys × RiseBy order ys

  pub ordered_rise : (xs : List (ℕ × X)) → RiseBy (entry_order xs) (ordered xs)
  ordered_rise xs = each (by_place (numbered 0 xs)) (all_at xs) (numbered_rise 0 xs)
    where
      later : (y : ℕ × (ℕ × X)) (zs : List (ℕ × (ℕ × X))) → IsAt xs y → AllByRecursion (IsAt xs) zs → AllByRecursion (IsBefore y) zs
          → AllByRecursion (λ z. entry_order xs z.0 y.1.0 ≡ Greater) (map (λ z. z.1) zs)
      later y [] here at up = tt
      later y (z ∷ zs) here at up = (rw (here.0, at.0.0) (later_order y.0 z.0 y.1.0 z.1.0 up.0.0 up.0.1), later y zs here at.1 up.1)

      each : (ys : List (ℕ × (ℕ × X))) → AllByRecursion (IsAt xs) ys → Rise ys → RiseBy (entry_order xs) (map (λ y. y.1) ys)
      each [] at up = tt
      each (y ∷ ys) at up = (later y ys at.0 at.1 up.0, each ys at.1 up.1)
