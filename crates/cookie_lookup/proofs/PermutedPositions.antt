-- Lists with the same positions are permutations of each other.
use Rattle.std.proofs.Common.{◌≡◌, ℕ, ◌<◌, false, cond, ◌||◌, List, [], ◌∷◌, ap, subst, inl, inr, arith, IsPermutation}
use Rattle.std.specs.List.{sum_by}
use Rattle.std.proofs.lemmas.Bool.Decides.{nat_tests}
use Rattle.std.proofs.lemmas.List.Sums.{sum_by-cons}
use Rattle.std.proofs.lemmas.List.Sorted.{IsPermutation-refl, IsPermutation-sym, IsPermutation-trans, IsPermutation-cons, IsPermutation-middle, sum_by-IsPermutation}
use Rattle.cookie_lookup.specs.SearchView.{RowPosition}
use Rattle.cookie_lookup.specs.Positions.{SamePositions}
use Rattle.cookie_lookup.proofs.CandidateCuts.{bool_cases}
use Rattle.cookie_lookup.proofs.PositionOrder.{is_position_before, neither_before, position_before_tests}

-- 1 for this position, 0 for any other
abbrev one_for : RowPosition → RowPosition → ℕ
one_for x y = cond (is_position_before x y || is_position_before y x) 0 1

one_for_itself : (x : RowPosition) → one_for x x ≡ 1
one_for_itself x =
    let neither : is_position_before x x ≡ false = grind (arith, nat_tests, position_before_tests x x) in
    ap (λ b. cond {A = ℕ} (b || b) 0 1) neither

-- a position of a list can be moved to the front
to_first : (x : RowPosition) (ys : List RowPosition) → 0 < sum_by (one_for x) ys → (rest : List RowPosition) × IsPermutation ys (x ∷ rest)
to_first x [] some = absurd (omega (arith, some))
to_first x (y ∷ ys) some = elim (bool_cases (is_position_before x y || is_position_before y x)) [
  | inl other ↦
      let later = to_first x ys (omega (arith, some, sum_by-cons (one_for x) y ys, ap (λ b. cond {A = ℕ} b 0 1) other)) in
      (y ∷ later.0, IsPermutation-trans (y ∷ ys) (y ∷ x ∷ later.0) (x ∷ y ∷ later.0) (IsPermutation-cons y ys (x ∷ later.0) later.1) (IsPermutation-middle (y ∷ []) x later.0))
  | inr is ↦
      let same : y ≡ x = neither_before y x (grind (arith, nat_tests, is)) (grind (arith, nat_tests, is)) in
      (ys, subst (λ first. IsPermutation (y ∷ ys) (first ∷ ys)) same (IsPermutation-refl (y ∷ ys)))
]

-- if each number has the same sum over both, one list is a permutation of the other
pub permutation_from_sums : (xs ys : List RowPosition) → SamePositions xs ys → IsPermutation xs ys
permutation_from_sums [] [] same = IsPermutation-refl []
permutation_from_sums [] (y ∷ ys) same = absurd (omega (arith, same (λ _. 1), sum_by-cons (λ (_ : RowPosition). 1) y ys))
permutation_from_sums (x ∷ xs) ys same =
    let moved = to_first x ys (omega (arith, same (one_for x), sum_by-cons (one_for x) x xs, one_for_itself x)) in
    let rest : SamePositions xs moved.0 = λ f. omega (arith, same f, sum_by-cons f x xs, sum_by-cons f x moved.0, sum_by-IsPermutation f ys (x ∷ moved.0) moved.1) in
    IsPermutation-trans (x ∷ xs) (x ∷ moved.0) ys (IsPermutation-cons x xs moved.0 (permutation_from_sums xs moved.0 rest)) (IsPermutation-sym ys (x ∷ moved.0) moved.1)
