-- What is the same of a list in any order.
use Rattle.std.proofs.Common.{◌≡◌, ℕ, zero, suc, ◌<◌, Bool, true, false, ◌||◌, List, [], ◌∷◌, ◌++◌, length, get_or, set, refl, ◌∙◌, ap, subst, arith, append_assoc, swap, IsPermutation}
use Rattle.std.specs.List.{AllByRecursion, flat_map, list_any}
use Rattle.std.proofs.lemmas.Bool.Decides.{nat_tests}
use Rattle.std.proofs.lemmas.List.Edits.{swap_is}
use Rattle.std.proofs.lemmas.List.Sorted.{IsPermutation-refl, IsPermutation-trans, IsPermutation-keeps, IsPermutation-append_comm, IsPermutation-append_left, IsPermutation-append_right}
use Rattle.cookie_laws.specs.Rows.{differ}

-- a relation of lists that holds if the first two elements of one are exchanged
module _ {X : Type 0} (R : List X → List X → Type 0) (same : (xs : List X) → R xs xs) (both : (xs ys zs : List X) → R xs ys → R ys zs → R xs zs)
    (under : (x : X) (xs ys : List X) → R xs ys → R (x ∷ xs) (x ∷ ys)) (front : (x y : X) (xs : List X) → R (x ∷ y ∷ xs) (y ∷ x ∷ xs)) where
  -- holds if its first element and a later one are
  with_first : (x : X) (xs : List X) (j : ℕ) (d : X) → j < length xs → R (x ∷ xs) (get_or xs j d ∷ set xs j x)
  with_first x [] j d below = absurd (omega (arith, below))
  with_first x (z ∷ zs) zero d below = front x z zs
  with_first x (z ∷ zs) (suc j) d below =
      let y = get_or zs j d in
      let rest = set zs j x in
      both (x ∷ z ∷ zs) (z ∷ x ∷ zs) (y ∷ z ∷ rest) (front x z zs)
      (both (z ∷ x ∷ zs) (z ∷ y ∷ rest) (y ∷ z ∷ rest) (under z (x ∷ zs) (y ∷ rest) (with_first x zs j d (omega (arith, below)))) (front z y rest))

  -- if any two of its elements are
  any_two : (xs : List X) (i j : ℕ) (d : X) → i < length xs → j < length xs → R xs (set (set xs i (get_or xs j d)) j (get_or xs i d))
  any_two [] i j d p q = absurd (omega (arith, p))
  any_two (x ∷ xs) zero zero d p q = same (x ∷ xs)
  any_two (x ∷ xs) zero (suc j) d p q = with_first x xs j d (omega (arith, q))
  any_two (x ∷ xs) (suc i) zero d p q = with_first x xs i d (omega (arith, p))
  any_two (x ∷ xs) (suc i) (suc j) d p q = under x xs _ (any_two xs i j d (omega (arith, p)) (omega (arith, q)))

  -- and so if its elements are in any other order
  pub in_any_order : (xs ys : List X) → IsPermutation xs ys → R xs ys
  in_any_order xs ys moved = IsPermutation-keeps xs (R xs) (same xs) step ys moved
    where
      step : (l : List X) (i j : ℕ) → i < length l → j < length l → R xs l → R xs (swap l i j)
      step [] i j p q so_far = absurd (omega (arith, p))
      step (d ∷ l) i j p q so_far = both xs (d ∷ l) (swap (d ∷ l) i j) so_far (subst (R (d ∷ l)) (swap_is (d ∷ l) i j d p q) (any_two (d ∷ l) i j d p q))

-- what holds of each element does in any order
pub all_in_any_order : {X : Type 0} (P : X → Type 0) (xs ys : List X) → IsPermutation xs ys → AllByRecursion P xs → AllByRecursion P ys
all_in_any_order P = in_any_order (λ xs ys. AllByRecursion P xs → AllByRecursion P ys) (λ xs a. a) (λ xs ys zs f g a. g (f a))
    (λ x xs ys f a. (a.0, f a.1)) (λ x y xs a. (a.1.0, (a.0, a.1.1)))

-- the lists of each element, joined, are a permutation in any order
pub flat_map_in_any_order : {X A : Type 0} (f : X → List A) (xs ys : List X) → IsPermutation xs ys → IsPermutation (flat_map f xs) (flat_map f ys)
flat_map_in_any_order f = in_any_order (λ xs ys. IsPermutation (flat_map f xs) (flat_map f ys)) (λ xs. IsPermutation-refl (flat_map f xs))
    (λ xs ys zs. IsPermutation-trans (flat_map f xs) (flat_map f ys) (flat_map f zs))
    (λ x xs ys. IsPermutation-append_right (f x) (flat_map f xs) (flat_map f ys)) (λ x y xs. exchanged (f x) (f y) (flat_map f xs))
  where
    exchanged : {A : Type 0} (xs ys zs : List A) → IsPermutation (xs ++ (ys ++ zs)) (ys ++ (xs ++ zs))
    exchanged xs ys zs =
        subst (λ l. IsPermutation l (ys ++ (xs ++ zs))) (append_assoc xs ys zs)
        (subst (IsPermutation ((xs ++ ys) ++ zs)) (append_assoc ys xs zs) (IsPermutation-append_left zs (xs ++ ys) (ys ++ xs) (IsPermutation-append_comm xs ys)))

module _ {X : Type 0} (alike : X → X → Bool) (flip : (x y : X) → alike x y ≡ alike y x) where
  -- the lists pass the same tests, and if the elements of one differ, so do those of the other
  abbrev pub StillDiffer : List X → List X → Type 0
  StillDiffer xs ys = ((test : X → Bool) → list_any test xs ≡ list_any test ys) × (differ alike xs ≡ true → differ alike ys ≡ true)

  -- with one more element
  one_more : (x : X) (xs ys : List X) → StillDiffer xs ys → StillDiffer (x ∷ xs) (x ∷ ys)
  one_more x xs ys still = (λ test. ap (λ b. test x || b) (still.0 test), λ d. more d)
    where
      more : differ alike (x ∷ xs) ≡ true → differ alike (x ∷ ys) ≡ true
      more d =
          let after : differ alike xs ≡ true = grind (arith, nat_tests, d) in
          grind (arith, nat_tests, d, still.0 (alike x), still.1 after)

  -- with the first two exchanged
  two_first : (x y : X) (xs : List X) → StillDiffer (x ∷ y ∷ xs) (y ∷ x ∷ xs)
  two_first x y xs = (λ test. either_first (test x) (test y) (list_any test xs), λ d. exchanged d)
    where
      either_first : (a b c : Bool) → (a || (b || c)) ≡ (b || (a || c))
      either_first true true c = refl
      either_first true false c = refl
      either_first false true c = refl
      either_first false false c = refl

      exchanged : differ alike (x ∷ y ∷ xs) ≡ true → differ alike (y ∷ x ∷ xs) ≡ true
      exchanged d = grind (arith, nat_tests, d, flip x y)

  -- elements that differ do so in any order
  pub differ_in_any_order : (xs ys : List X) → IsPermutation xs ys → differ alike xs ≡ true → differ alike ys ≡ true
  differ_in_any_order xs ys moved =
      (in_any_order StillDiffer (λ xs. (λ test. refl, λ d. d)) (λ xs ys zs f g. (λ test. f.0 test ∙ g.0 test, λ d. g.1 (f.1 d))) one_more two_first xs ys moved).1
