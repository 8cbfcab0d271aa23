-- A list in order is the only one with the same elements; and positions in order.
use Rattle.std.proofs.Common.{◌≡◌, ℕ, suc, ◌+◌, ◌<◌, ◌≤◌, Bool, true, false, cond, ◌&&◌, ◌||◌, ◌⊎◌, inl, inr, eqb, ltb, List, [], ◌∷◌, ◌++◌, length, get_or, refl, sym, ◌∙◌, ap, arith, is_lt, nat_cmp, IsPermutation, Ordering}
use Rattle.std.specs.Ordering.{ordering_then}
use Rattle.std.specs.declared.cmp.Ordering.TheVariants.{Less, Equal, Greater}
use Rattle.std.specs.Cmp.{IsTotalOrder, IsStrictWeakOrder}
use Rattle.std.specs.List.{AllByRecursion, sum_by}
use Rattle.std.specs.List.Sorted.{IsSortedBy}
use Rattle.std.proofs.lemmas.Cmp.{nat_cmp_total, then_total, on_total}
use Rattle.std.proofs.lemmas.List.Sorted.{ranks_by, sorted_far, sum_by-IsPermutation}
use Rattle.std.proofs.lemmas.List.Sums.{sum_by-cons}
use Rattle.std.proofs.lemmas.Bool.Decides.{nat_tests}
use Rattle.cookie_lookup.specs.SearchView.{RowPosition}
use Rattle.cookie_lookup.proofs.CandidateCuts.{bool_cases}

-- ascending lists, by a test that is an order

pub all_append : {X : Type 0} (P : X → Type 0) (xs ys : List X) → AllByRecursion P xs → AllByRecursion P ys → AllByRecursion P (xs ++ ys)
all_append P [] ys a b = b
all_append P (x ∷ xs) ys a b = (a.0, all_append P xs ys a.1 b)

pub all_weaker : {X : Type 0} (P Q : X → Type 0) → ((x : X) → P x → Q x) → (xs : List X) → AllByRecursion P xs → AllByRecursion Q xs
all_weaker P Q w [] a = tt
all_weaker P Q w (x ∷ xs) a = (w x a.0, all_weaker P Q w xs a.1)

-- lists with the same elements
abbrev pub SameSums : {X : Type 0} → List X → List X → Type 0
SameSums {X} xs ys = (f : X → ℕ) → sum_by f xs ≡ sum_by f ys

module _ {X : Type 0} (before : X → X → Bool) where
  abbrev pub Ascends : List X → Type 0
  Ascends [] = Unit {0}
  Ascends (x ∷ xs) = AllByRecursion (λ y. before y x ≡ false) xs × Ascends xs

  ascends_by_index : (xs : List X) → ((i j : ℕ) (d : X) → i ≤ j → j < length xs → before (get_or xs j d) (get_or xs i d) ≡ false) → Ascends xs
  ascends_by_index [] h = tt
  ascends_by_index (x ∷ xs) h = (
    all_by_index xs (λ j d l. h 0 (suc j) d (omega arith) (omega arith)),
    ascends_by_index xs (λ i j d l m. h (suc i) (suc j) d (omega arith) (omega arith)),
  )
    where
      all_by_index : (ys : List X) → ((j : ℕ) (d : X) → j < length ys → before (get_or ys j d) x ≡ false) → AllByRecursion (λ y. before y x ≡ false) ys
      all_by_index [] k = tt
      all_by_index (y ∷ ys) k = (k 0 y (omega arith), all_by_index ys (λ j d l. k (suc j) d (omega arith)))

  -- joined
  pub ascends_append : (P Q : X → Type 0) → ((x y : X) → P x → Q y → before y x ≡ false) → (xs ys : List X)
      → AllByRecursion P xs → AllByRecursion Q ys → Ascends xs → Ascends ys → Ascends (xs ++ ys)
  ascends_append P Q w [] ys p q a b = b
  ascends_append P Q w (x ∷ xs) ys p q a b = (
    all_append (λ y. before y x ≡ false) xs ys a.0 (all_weaker Q (λ y. before y x ≡ false) (λ y h. w x y p.0 h) ys q),
    ascends_append P Q w xs ys p.1 q a.1 b,
  )

  -- the elements before x are none
  none_before : (x : X) (xs : List X) → AllByRecursion (λ y. before y x ≡ false) xs → sum_by (λ y. cond (before y x) 1 0) xs ≡ 0
  none_before x [] h = refl
  none_before x (y ∷ ys) h = sum_by-cons (λ y. cond (before y x) 1 0) y ys ∙ rw (h.0, none_before x ys h.1) (omega arith)

  module _ (order : IsStrictWeakOrder before) (exact : (x y : X) → before x y ≡ false → before y x ≡ false → x ≡ y) where
    first_is_least : (x y : X) (xs ys : List X) → SameSums (x ∷ xs) (y ∷ ys) → Ascends (x ∷ xs) → before y x ≡ false
    first_is_least x y xs ys s a =
        let f : X → ℕ = λ z. cond (before z x) 1 0 in
        let none : sum_by f (x ∷ xs) ≡ 0 = none_before x (x ∷ xs) (not_itself (bool_cases (before x x)), a.0) in
        let parts : sum_by f (y ∷ ys) ≡ cond (before y x) 1 0 + sum_by f ys = sum_by-cons f y ys in
        let same = s f in
        let zero_it : cond {A = ℕ} (before y x) 1 0 ≡ 0 = omega (arith, none, parts, same) in
        is_false (before y x) zero_it
      where
        not_itself : (before x x ≡ true) ⊎ (before x x ≡ false) → before x x ≡ false
        not_itself (inl t) = order.one_way x x t
        not_itself (inr f) = f

        is_false : (b : Bool) → cond {A = ℕ} b 1 0 ≡ 0 → b ≡ false
        is_false true h = absurd (omega arith)
        is_false false h = refl

    ascending_same : (xs ys : List X) → SameSums xs ys → Ascends xs → Ascends ys → xs ≡ ys
    ascending_same [] [] s a b = refl
    ascending_same [] (y ∷ ys) s a b = absurd (omega (arith, s (λ _. 1), sum_by-cons (λ (_ : X). 1) y ys))
    ascending_same (x ∷ xs) [] s a b = absurd (omega (arith, s (λ _. 1), sum_by-cons (λ (_ : X). 1) x xs))
    ascending_same (x ∷ xs) (y ∷ ys) s a b =
        let same : x ≡ y = exact x y (first_is_least y x ys xs (λ f. sym (s f)) b) (first_is_least x y xs ys s a) in
        let rest : xs ≡ ys = ascending_same xs ys
        (λ f. omega (arith, s f, sum_by-cons f x xs, sum_by-cons f y ys, ap f same)) a.1 b.1 in
        rw (same, rest) refl

    -- a sort of a list with the same elements as an ascending one
    pub sorted_is : (unsorted sorted all : List X) → SameSums unsorted all → Ascends all → IsPermutation unsorted sorted → IsSortedBy before sorted → sorted ≡ all
    sorted_is unsorted sorted all s a p up =
        ascending_same sorted all (λ f. sum_by-IsPermutation f unsorted sorted p ∙ s f)
        (ascends_by_index sorted (λ i j d l m. sorted_far before order sorted up i j d l m)) a

-- positions: by domain, then by path, then by row

abbrev triple_order : RowPosition → RowPosition → Ordering
triple_order a b = ordering_then (ordering_then (nat_cmp a.0 b.0) (nat_cmp a.1 b.1)) (nat_cmp a.2 b.2)

abbrev pub is_position_before : RowPosition → RowPosition → Bool
is_position_before a b = is_lt (triple_order a b)

positions_total : IsTotalOrder triple_order
positions_total = then_total (then_total (on_total (λ (s : RowPosition). s.0) nat_cmp_total) (on_total (λ (s : RowPosition). s.1) nat_cmp_total)) (on_total (λ (s : RowPosition). s.2) nat_cmp_total)

pub positions_order : IsStrictWeakOrder is_position_before
positions_order = ranks_by positions_total (λ s. s)

in_tests : (l e m f n g : Bool) → is_lt (ordering_then (ordering_then (cond l Less (cond e Equal Greater)) (cond m Less (cond f Equal Greater))) (cond n Less (cond g Equal Greater))) ≡ (l || (e && (m || (f && n))))
in_tests true e m f n g = refl
in_tests false true true f n g = refl
in_tests false true false true true g = refl
in_tests false true false true false true = refl
in_tests false true false true false false = refl
in_tests false true false false n g = refl
in_tests false false m f n g = refl

pub position_before_tests : (a b : RowPosition) → is_position_before a b ≡ (ltb a.0 b.0 || (eqb a.0 b.0 && (ltb a.1 b.1 || (eqb a.1 b.1 && ltb a.2 b.2))))
position_before_tests a b = in_tests (ltb a.0 b.0) (eqb a.0 b.0) (ltb a.1 b.1) (eqb a.1 b.1) (ltb a.2 b.2) (eqb a.2 b.2)

same_position : (x y z x' y' z' : ℕ) → x ≡ x' → y ≡ y' → z ≡ z' → ◌≡◌ {A = RowPosition} (x, y, z) (x', y', z')
same_position x y z x' y' z' e f g = rw (e, f, g) refl

pub neither_before : (a b : RowPosition) → is_position_before a b ≡ false → is_position_before b a ≡ false → a ≡ b
neither_before a b h k =
    let t = sym (position_before_tests a b) ∙ h in
    let u = sym (position_before_tests b a) ∙ k in
    let first : a.0 ≡ b.0 = grind (arith, nat_tests, t, u) in
    let second : a.1 ≡ b.1 = grind (arith, nat_tests, t, u, first) in
    let third : a.2 ≡ b.2 = grind (arith, nat_tests, t, u, first, second) in
    same_position a.0 a.1 a.2 b.0 b.1 b.2 first second third
