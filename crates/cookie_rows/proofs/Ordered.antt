-- Keys in the order of their numbers: the same keys, also of those that pass a test.
use Rattle.std.proofs.Common.{◌≡◌, ℕ, ◌≤◌, Bool, true, false, not, List, [], ◌∷◌, filter, refl, sym, ◌∙◌, ap, inl, inr, arith, IsPermutation}
use Rattle.std.specs.Prelude.{nat_le}
use Rattle.std.specs.List.{AllByRecursion, IsDistinct, list_any}
use Rattle.std.proofs.lemmas.Bool.{and_from, and_parts, cases_Bool, not-true, or_from}
use Rattle.std.proofs.lemmas.Bool.Decides.{nat_tests}
use Rattle.std.proofs.lemmas.List.Sorted.{IsPermutation-cons, IsPermutation-middle, IsPermutation-refl, IsPermutation-sym, IsPermutation-trans, list_any-IsPermutation}
use Rattle.std.proofs.lemmas.Map.Keys.{IsDistinct-IsPermutation}
use Rattle.cookie_laws.specs.Rows.{Key, differ}
use Rattle.cookie_rows.specs.Items.{place, by_number}
use Rattle.cookie_rows.proofs.All.{all_map, all_moved}
use Rattle.cookie_rows.proofs.FilteredGroups.{each_fails}
use Rattle.cookie_rows.proofs.Leaves.{all_leaves, leaves_filter}

-- items in another order

module _ {T : Type 0} where
  -- if each fails, none passes
  pub none_passes : (test : T → Bool) (xs : List T) → AllByRecursion (λ x. test x ≡ false) xs → list_any test xs ≡ false
  none_passes test [] a = refl
  none_passes test (x ∷ xs) a = or_from (test x) (list_any test xs) a.0 (none_passes test xs a.1)

  module _ (alike : T → T → Bool) where
    -- items that differ, in std's word
    pub distinct_from_differ : (xs : List T) → differ alike xs ≡ true → IsDistinct alike xs
    unfolding IsDistinct
    distinct_from_differ [] d = tt
    distinct_from_differ (x ∷ xs) d =
        let parts = and_parts (not (list_any (alike x) xs)) (differ alike xs) d in
        (each_fails (alike x) xs (not-true _ parts.0), distinct_from_differ xs parts.1)

    -- and back
    differ_from_distinct : (xs : List T) → IsDistinct alike xs → differ alike xs ≡ true
    unfolding IsDistinct
    differ_from_distinct [] d = refl
    differ_from_distinct (x ∷ xs) d = and_from (not (list_any (alike x) xs)) (differ alike xs) (ap not (none_passes (alike x) xs d.0)) (differ_from_distinct xs d.1)

    -- items that differ do so in another order
    pub differ_moved : ((x y : T) → alike x y ≡ alike y x) → (xs ys : List T) → IsPermutation xs ys → differ alike xs ≡ true → differ alike ys ≡ true
    differ_moved flips xs ys p d = differ_from_distinct ys (IsDistinct-IsPermutation alike flips xs ys p (distinct_from_differ xs d))

-- the same keys

-- a key in its place is one key more
pub place_moved : (x : Key × ℕ) (zs : List (Key × ℕ)) → IsPermutation (x ∷ zs) (place x zs)
place_moved x [] = IsPermutation-refl (x ∷ [])
place_moved x (z ∷ zs) = elim (cases_Bool (nat_le x.1 z.1)) [
  | inl e ↦ rw e (IsPermutation-refl (x ∷ z ∷ zs))
  | inr e ↦
      let behind = IsPermutation-sym (z ∷ x ∷ zs) (x ∷ z ∷ zs) (IsPermutation-middle (z ∷ []) x zs) in
      rw e (IsPermutation-trans (x ∷ z ∷ zs) (z ∷ x ∷ zs) (z ∷ place x zs) behind (IsPermutation-cons z (x ∷ zs) (place x zs) (place_moved x zs)))
]

-- by number there are the same keys
pub ordered_moved : (xs : List (Key × ℕ)) → IsPermutation xs (by_number xs)
ordered_moved [] = IsPermutation-refl []
ordered_moved (x ∷ xs) = IsPermutation-trans (x ∷ xs) (x ∷ by_number xs) (place x (by_number xs)) (IsPermutation-cons x xs (by_number xs) (ordered_moved xs)) (place_moved x (by_number xs))

-- what holds of a key and of all others holds of all with the key in its place
pub all_place : (P : Key × ℕ → Type 0) (x : Key × ℕ) (zs : List (Key × ℕ)) → P x → AllByRecursion P zs → AllByRecursion P (place x zs)
all_place P x zs p a = all_moved P (x ∷ zs) (place x zs) (place_moved x zs) (p, a)

-- what holds of all keys holds of them in order
pub all_ordered : (P : Key × ℕ → Type 0) (xs : List (Key × ℕ)) → AllByRecursion P xs → AllByRecursion P (by_number xs)
all_ordered P xs a = all_moved P xs (by_number xs) (ordered_moved xs) a

-- some key passes if one does in order
pub any_ordered : (test : Key × ℕ → Bool) (xs : List (Key × ℕ)) → list_any test (by_number xs) ≡ list_any test xs
any_ordered test xs = sym (list_any-IsPermutation test xs (by_number xs) (ordered_moved xs))

-- numbers that ascend

-- no number is less than this one
abbrev From : ℕ → List (Key × ℕ) → Type 0
From n xs = AllByRecursion (λ x. n ≤ x.1) xs

-- no number is less than one before it
abbrev Ascend : List (Key × ℕ) → Type 0
Ascend [] = Unit {0}
Ascend (x ∷ xs) = From x.1 xs × Ascend xs

-- numbers that are no less than this one are no less than a smaller one
from_more : (m n : ℕ) (xs : List (Key × ℕ)) → m ≤ n → From n xs → From m xs
from_more m n xs l a = all_map (λ x. n ≤ x.1) (λ x. m ≤ x.1) (λ x h. omega (arith, l, h)) xs a

-- after `place` no number is less than one before it
ascend_place : (x : Key × ℕ) (zs : List (Key × ℕ)) → Ascend zs → Ascend (place x zs)
ascend_place x [] a = (tt, tt)
ascend_place x (z ∷ zs) a = elim (cases_Bool (nat_le x.1 z.1)) [
  | inl e ↦ let l : x.1 ≤ z.1 = grind (arith, nat_tests, e) in rw e ((l, from_more x.1 z.1 zs l a.0), a)
  | inr e ↦ let l : z.1 ≤ x.1 = grind (arith, nat_tests, e) in rw e (all_place (λ y. z.1 ≤ y.1) x zs l a.0, ascend_place x zs a.1)
]

-- in order no number is less than one before it
ascend_ordered : (xs : List (Key × ℕ)) → Ascend (by_number xs)
ascend_ordered [] = tt
ascend_ordered (x ∷ xs) = ascend_place x (by_number xs) (ascend_ordered xs)

-- a key whose number is no greater than the others has the first place
place_first : (x : Key × ℕ) (zs : List (Key × ℕ)) → From x.1 zs → place x zs ≡ x ∷ zs
place_first x [] a = refl
place_first x (z ∷ zs) a = let first : nat_le x.1 z.1 ≡ true = grind (arith, nat_tests, a.0) in rw first refl

-- keys that pass a test

module _ (test : Key × ℕ → Bool) where
  -- a key that passes has its place among those that do
  filtered_placed : (x : Key × ℕ) (zs : List (Key × ℕ)) → test x ≡ true → Ascend zs → filter test (place x zs) ≡ place x (filter test zs)
  filtered_placed x [] e a = rw e refl
  filtered_placed x (z ∷ zs) e a = elim (cases_Bool (nat_le x.1 z.1)) [
    | inl l ↦
        let below : x.1 ≤ z.1 = grind (arith, nat_tests, l) in
        let all : From x.1 (filter test (z ∷ zs)) = all_leaves (λ y. x.1 ≤ y.1) (z ∷ zs) (filter test (z ∷ zs)) (leaves_filter test (z ∷ zs)) (below, from_more x.1 z.1 zs below a.0) in
        rw (l, e) (sym (place_first x (filter test (z ∷ zs)) all))
    | inr l ↦ elim (cases_Bool (test z)) [
      | inl f ↦ rw (l, f, l) (ap (λ ws. z ∷ ws) (filtered_placed x zs e a.1))
      | inr f ↦ rw (l, f) (filtered_placed x zs e a.1)
    ]
  ]

  -- one that does not pass goes
  filtered_beside : (x : Key × ℕ) (zs : List (Key × ℕ)) → test x ≡ false → filter test (place x zs) ≡ filter test zs
  filtered_beside x [] e = rw e refl
  filtered_beside x (z ∷ zs) e = elim (cases_Bool (nat_le x.1 z.1)) [
    | inl l ↦ rw (l, e) refl
    | inr l ↦ elim (cases_Bool (test z)) [
      | inl f ↦ rw (l, f) (ap (λ ws. z ∷ ws) (filtered_beside x zs e))
      | inr f ↦ rw (l, f) (filtered_beside x zs e)
    ]
  ]

  -- the keys that pass, before they are ordered or after
  pub ordered_filtered : (xs : List (Key × ℕ)) → by_number (filter test xs) ≡ filter test (by_number xs)
  ordered_filtered [] = refl
  ordered_filtered (x ∷ xs) = elim (cases_Bool (test x)) [
    | inl e ↦ rw e (ap (place x) (ordered_filtered xs) ∙ sym (filtered_placed x (by_number xs) e (ascend_ordered xs)))
    | inr e ↦ rw e (ordered_filtered xs ∙ sym (filtered_beside x (by_number xs) e))
  ]
