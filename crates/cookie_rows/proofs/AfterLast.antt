-- What remains of a list after `after_last`, `replaced` and `changed`.
use Rattle.std.proofs.Common.{◌≡◌, Bool, true, false, not, ◌&&◌, ◌||◌, cond, List, [], ◌∷◌, find, map, option_map, Option, Some, None, refl, inl, inr, arith}
use Rattle.std.specs.List.{AllByRecursion, list_any}
use Rattle.std.proofs.lemmas.Bool.{cases_Bool}
use Rattle.cookie_laws.specs.Rows.{after_last, changed, replaced}

-- whether the first item passes
abbrev pub starts : {T : Type 0} → (T → Bool) → List T → Bool
starts p [] = false
starts p (x ∷ xs) = p x

-- an item passes where y does or one of the list
pub list_any-after_last : {T : Type 0} (p test : T → Bool) (xs : List T) (y : T) → list_any p (after_last test xs y) ≡ (p y || list_any p xs)
list_any-after_last p test [] y = refl
list_any-after_last p test (x ∷ xs) y = grind (arith, list_any-after_last p test xs y)

-- the first item is still the first
pub starts-after_last : {T : Type 0} (p test : T → Bool) (x : T) (xs : List T) (y : T) → starts p (after_last test (x ∷ xs) y) ≡ p x
starts-after_last p test x xs y = grind arith

-- a test of the list of a function's values
pub list_any-map : {A B : Type 0} (f : A → B) (test : B → Bool) (xs : List A) → list_any test (map f xs) ≡ list_any (λ x. test (f x)) xs
list_any-map f test [] = refl
list_any-map f test (x ∷ xs) = grind (arith, list_any-map f test xs)

-- a function at each item
pub map-after_last : {A B : Type 0} (f : A → B) (test : B → Bool) (xs : List A) (y : A) → map f (after_last (λ x. test (f x)) xs y) ≡ after_last test (map f xs) (f y)
map-after_last f test [] y = refl
map-after_last f test (x ∷ xs) y = grind (arith, list_any-map f test xs, map-after_last f test xs y)

-- a function that has the value of y wherever an item passes doesn't see the change
pub map-replaced : {A B : Type 0} (f : A → B) (test : A → Bool) (xs : List A) (y : A) → ((x : A) → test x ≡ true → f x ≡ f y) → map f (replaced test xs y) ≡ map f xs
map-replaced f test [] y same = refl
map-replaced f test (x ∷ xs) y same = grind (arith, same x, map-replaced f test xs y same)

-- a function that has the same value of an item that was changed doesn't see the change
pub map-changed : {A B : Type 0} (f : A → B) (test : A → Bool) (change : A → A) (xs : List A) → ((x : A) → f (change x) ≡ f x) → map f (changed test change xs) ≡ map f xs
map-changed f test change [] same = refl
map-changed f test change (x ∷ xs) same = grind (arith, same x, map-changed f test change xs same)

-- a change and a function that commute
pub map_change : {A B : Type 0} (f : A → B) (test : B → Bool) (change : A → A) (to : B → B) → ((x : A) → f (change x) ≡ to (f x)) → (xs : List A)
    → map f (changed (λ x. test (f x)) change xs) ≡ changed test to (map f xs)
map_change f test change to same [] = refl
map_change f test change to same (x ∷ xs) = grind (arith, same x, map_change f test change to same xs)

-- what is found of a function's values
pub find_map : {A B : Type 0} (f : A → B) (test : B → Bool) (xs : List A) → find test (map f xs) ≡ option_map f (find (λ x. test (f x)) xs)
find_map f test [] = refl
find_map f test (x ∷ xs) = elim (cases_Bool (test (f x))) [ inl e ↦ rw e refl | inr e ↦ rw e (find_map f test xs) ]

-- if none is found, none passes
pub none_passes : {T : Type 0} (test : T → Bool) (xs : List T) → find test xs ≡ None → list_any test xs ≡ false
none_passes test [] none = refl
none_passes test (x ∷ xs) none = elim (cases_Bool (test x)) [
  | inl e ↦ let found = rw e at none in absurd (cc)
  | inr e ↦ rw e (none_passes test xs (rw e at none))
]

-- what has no view is nothing
pub nothing_viewed : {A B : Type 0} (see : A → B) (o : Option A) → option_map see o ≡ None → o ≡ None
nothing_viewed see None e = refl
nothing_viewed see (Some x) e = absurd (cc)

-- tests that agree

module _ {T : Type 0} (t u : T → Bool) where
  pub any_same : (xs : List T) → AllByRecursion (λ x. t x ≡ u x) xs → list_any t xs ≡ list_any u xs
  any_same [] a = refl
  any_same (x ∷ xs) a = let rest = any_same xs a.1 in λ i. a.0 i || rest i

  pub find_same : (xs : List T) → AllByRecursion (λ x. t x ≡ u x) xs → find t xs ≡ find u xs
  find_same [] a = refl
  find_same (x ∷ xs) a = let rest = find_same xs a.1 in λ i. cond (a.0 i) (Some x) (rest i)

  pub changed_same : (change : T → T) (xs : List T) → AllByRecursion (λ x. t x ≡ u x) xs → changed t change xs ≡ changed u change xs
  changed_same change [] a = refl
  changed_same change (x ∷ xs) a = let rest = changed_same change xs a.1 in λ i. cond (a.0 i) (change x ∷ xs) (x ∷ rest i)

  pub after_last_same : (xs : List T) (y : T) → AllByRecursion (λ x. t x ≡ u x) xs → after_last t xs y ≡ after_last u xs y
  after_last_same [] y a = refl
  after_last_same (x ∷ xs) y a =
      let others = any_same xs a.1 in
      let rest = after_last_same xs y a.1 in
      λ i. cond (a.0 i && not (others i)) (x ∷ y ∷ xs) (x ∷ rest i)
