-- Lists of distinct items: one item appended, others removed, another order.
use Rattle.std.proofs.Common.{◌≡◌, Bool, true, false, not, List, [], ◌∷◌, ◌++◌, refl, ap, arith, IsPermutation}
use Rattle.std.specs.List.{filter, list_any, IsDistinct, AllByRecursion}
use Rattle.std.proofs.lemmas.Bool.{and_parts, and_from, or_parts, or_from, not-true}
use Rattle.std.proofs.lemmas.Map.Keys.{IsDistinct-IsPermutation}
use Rattle.cookie_laws.specs.Rows.{differ, removed}
use Rattle.cookie_laws.proofs.Filtered.{none-filter}

-- items of any kind
module _ {T : Type 0} where
  -- if nothing passes, nothing does after a removal
  none-removed : (p test : T → Bool) (xs : List T) → list_any p xs ≡ false → list_any p (removed test xs) ≡ false
  none-removed p test [] none = refl
  none-removed p test (x ∷ xs) none = grind (arith, none-removed p test xs)

  -- nor with one more that does not
  none-pushed : (p : T → Bool) (xs : List T) (y : T) → list_any p xs ≡ false → p y ≡ false → list_any p (xs ++ y ∷ []) ≡ false
  none-pushed p [] y none away = grind arith
  none-pushed p (x ∷ xs) y none away = grind (arith, none-pushed p xs y)

  -- if none passes, each fails
  each_fails : (test : T → Bool) (xs : List T) → list_any test xs ≡ false → AllByRecursion (λ x. test x ≡ false) xs
  each_fails test [] n = tt
  each_fails test (x ∷ xs) n = let parts = or_parts (test x) (list_any test xs) n in (parts.0, each_fails test xs parts.1)

  -- and back
  none_passes : (test : T → Bool) (xs : List T) → AllByRecursion (λ x. test x ≡ false) xs → list_any test xs ≡ false
  none_passes test [] a = refl
  none_passes test (x ∷ xs) a = or_from (test x) (list_any test xs) a.0 (none_passes test xs a.1)

  -- for a comparison `alike`
  module _ (alike : T → T → Bool) where
    -- items that differ do so without those that do not pass
    pub differ-filter : (p : T → Bool) (xs : List T) → differ alike xs ≡ true → differ alike (filter p xs) ≡ true
    differ-filter p [] d = refl
    differ-filter p (x ∷ xs) d = grind (arith, none-filter (alike x) p xs, differ-filter p xs)

    -- without one
    pub differ-removed : (test : T → Bool) (xs : List T) → differ alike xs ≡ true → differ alike (removed test xs) ≡ true
    differ-removed test [] d = refl
    differ-removed test (x ∷ xs) d = grind (arith, none-removed (alike x) test xs, differ-removed test xs)

    -- and with one more that is like none of them
    pub differ-pushed : ((x y : T) → alike x y ≡ alike y x) → (xs : List T) (y : T) → list_any (alike y) xs ≡ false
        → differ alike xs ≡ true → differ alike (xs ++ y ∷ []) ≡ true
    differ-pushed flips [] y new d = refl
    differ-pushed flips (x ∷ xs) y new d = grind (arith, flips x y, none-pushed (alike x) xs y, differ-pushed flips xs y)

    -- items that differ, in std's word
    distinct_from_differ : (xs : List T) → differ alike xs ≡ true → IsDistinct alike xs
    unfolding IsDistinct
    distinct_from_differ [] d = tt
    distinct_from_differ (x ∷ xs) d =
        let parts = and_parts (not (list_any (alike x) xs)) (differ alike xs) d in
        (each_fails (alike x) xs (not-true _ parts.0), distinct_from_differ xs parts.1)

    -- and back
    differ_from_distinct : (xs : List T) → IsDistinct alike xs → differ alike xs ≡ true
    unfolding IsDistinct
    differ_from_distinct [] d = refl
    differ_from_distinct (x ∷ xs) d =
        and_from (not (list_any (alike x) xs)) (differ alike xs) (ap not (none_passes (alike x) xs d.0)) (differ_from_distinct xs d.1)

    -- items that differ do so in another order
    pub differ-permutation : ((x y : T) → alike x y ≡ alike y x) → (xs ys : List T) → IsPermutation xs ys
        → differ alike xs ≡ true → differ alike ys ≡ true
    differ-permutation flips xs ys p d = differ_from_distinct ys (IsDistinct-IsPermutation alike flips xs ys p (distinct_from_differ xs d))
