-- Keys in the order of their numbers, as one is added.
use Rattle.std.proofs.Common.{◌≡◌, ℕ, ◌<◌, Bool, true, false, not, ◌&&◌, List, [], ◌∷◌, ◌++◌, map, refl, sym, ◌∙◌, ap, subst, inl, inr, arith}
use Rattle.std.specs.Prelude.{nat_le, nat_eq}
use Rattle.std.specs.List.{AllByRecursion, list_any}
use Rattle.std.proofs.lemmas.Bool.{cases_Bool, cond_both}
use Rattle.std.proofs.lemmas.Bool.Decides.{nat_tests}
use Rattle.std.proofs.lemmas.List.{map-append}
use Rattle.cookie_laws.specs.Rows.{Key, after_last, differ}
use Rattle.cookie_rows.specs.Items.{place, by_number}
use Rattle.cookie_rows.proofs.Ordered.{all_ordered}

-- one list is the other with y somewhere
pub record Gains {A : Type 0} (y : A) (xs ys : List A) : Type 0 where
  pub front : List A
  pub back : List A
  pub before : xs ≡ front ++ back
  pub after : ys ≡ front ++ y ∷ back

module _ {A : Type 0} (y : A) where
  -- an item more in front
  gains_cons : (x : A) (xs ys : List A) → Gains y xs ys → Gains y (x ∷ xs) (x ∷ ys)
  gains_cons x xs ys g = record {
    front = x ∷ g.front;
    back = g.back;
    before = ap (λ zs. x ∷ zs) g.before;
    after = ap (λ zs. x ∷ zs) g.after;
  }

  -- y is inserted by `after_last`
  pub gains_after_last : (test : A → Bool) (xs : List A) → Gains y xs (after_last test xs y)
  gains_after_last test [] = record { front = []; back = []; before = refl; after = refl }
  gains_after_last test (x ∷ xs) =
      cond_both (test x && not (list_any test xs)) (x ∷ y ∷ xs) (x ∷ after_last test xs y) (Gains y (x ∷ xs))
      (λ _. record { front = x ∷ []; back = xs; before = refl; after = refl }) (λ _. gains_cons x xs (after_last test xs y) (gains_after_last test xs))

  -- also of a function's values
  pub gains_map : {B : Type 0} (f : A → B) (xs ys : List A) → Gains y xs ys → Gains (f y) (map f xs) (map f ys)
  gains_map f xs ys g = record {
    front = map f g.front;
    back = map f g.back;
    before = ap (map f) g.before ∙ map-append f g.front g.back;
    after = ap (map f) g.after ∙ map-append f g.front (y ∷ g.back);
  }

  -- what holds of all items and of y
  all_with : (P : A → Type 0) (front back : List A) → P y → AllByRecursion P (front ++ back) → AllByRecursion P (front ++ y ∷ back)
  all_with P [] back p a = (p, a)
  all_with P (x ∷ front) back p a = (a.0, all_with P front back p a.1)

  -- what holds of all items and of y holds of all that there are then
  pub all_gained : (P : A → Type 0) (xs ys : List A) → Gains y xs ys → P y → AllByRecursion P xs → AllByRecursion P ys
  all_gained P xs ys g p a = subst (AllByRecursion P) (sym g.after) (all_with P g.front g.back p (subst (AllByRecursion P) g.before a))

-- numbers

-- a number is not among smaller ones
not_below : (n : ℕ) (xs : List (Key × ℕ)) → AllByRecursion (λ x. x.1 < n) xs → list_any (nat_eq n) (map (λ x. x.1) xs) ≡ false
not_below n [] a = refl
not_below n (x ∷ xs) a = grind (arith, nat_tests, a.0, not_below n xs a.1)

-- a number above all others differs from them
differ_with : (y : Key × ℕ) (front back : List (Key × ℕ)) → AllByRecursion (λ x. x.1 < y.1) (front ++ back) → differ nat_eq (map (λ x. x.1) (front ++ back)) ≡ true → differ nat_eq (map (λ x. x.1) (front ++ y ∷ back)) ≡ true
differ_with y [] back a d = grind (arith, nat_tests, d, not_below y.1 back a)
differ_with y (x ∷ front) back a d =
    let after : differ nat_eq (map (λ x. x.1) (front ++ back)) ≡ true = grind (arith, nat_tests, d) in
    let none : list_any (nat_eq x.1) (map (λ x. x.1) (front ++ back)) ≡ false = grind (arith, nat_tests, d) in
    let other : nat_eq x.1 y.1 ≡ false = grind (arith, nat_tests, a.0) in
    grind (arith, nat_tests, none_with (nat_eq x.1) front back none other, differ_with y front back a.1 after)
  where
    -- none passes if y does not
    none_with : (test : ℕ → Bool) (front back : List (Key × ℕ)) → list_any test (map (λ x. x.1) (front ++ back)) ≡ false → test y.1 ≡ false → list_any test (map (λ x. x.1) (front ++ y ∷ back)) ≡ false
    none_with test [] back n e = grind (arith, n, e)
    none_with test (x ∷ front) back n e = grind (arith, n, none_with test front back)

-- numbers still differ with one more that is above all
pub differ_gained : (y : Key × ℕ) (xs ys : List (Key × ℕ)) → Gains y xs ys → AllByRecursion (λ x. x.1 < y.1) xs → differ nat_eq (map (λ x. x.1) xs) ≡ true → differ nat_eq (map (λ x. x.1) ys) ≡ true
differ_gained y xs ys g a d =
    let d' = subst (λ zs. differ nat_eq (map (λ x. x.1) zs) ≡ true) g.before d in
    let a' = subst (AllByRecursion (λ x. x.1 < y.1)) g.before a in
    subst (λ zs. differ nat_eq (map (λ x. x.1) zs) ≡ true) (sym g.after) (differ_with y g.front g.back a' d')

-- order

-- the place of a number above all others is the last
place_last : (y : Key × ℕ) (zs : List (Key × ℕ)) → AllByRecursion (λ x. x.1 < y.1) zs → place y zs ≡ zs ++ y ∷ []
place_last y [] a = refl
place_last y (z ∷ zs) a = let later : nat_le y.1 z.1 ≡ false = grind (arith, nat_tests, a.0) in rw later (ap (λ ws. z ∷ ws) (place_last y zs a.1))

-- the place of a smaller one is before it
place_before : (x y : Key × ℕ) (zs : List (Key × ℕ)) → x.1 < y.1 → place x (zs ++ y ∷ []) ≡ place x zs ++ y ∷ []
place_before x y [] l = let first : nat_le x.1 y.1 ≡ true = grind (arith, nat_tests, l) in rw first refl
place_before x y (z ∷ zs) l = elim (cases_Bool (nat_le x.1 z.1)) [
  | inl e ↦ rw e refl
  | inr e ↦ rw e (ap (λ ws. z ∷ ws) (place_before x y zs l))
]

-- an item above all others is the last in order
ordered_with : (y : Key × ℕ) (front back : List (Key × ℕ)) → AllByRecursion (λ x. x.1 < y.1) (front ++ back) → by_number (front ++ y ∷ back) ≡ by_number (front ++ back) ++ y ∷ []
ordered_with y [] back a = place_last y (by_number back) (all_ordered (λ x. x.1 < y.1) back a)
ordered_with y (x ∷ front) back a = ap (place x) (ordered_with y front back a.1) ∙ place_before x y (by_number (front ++ back)) a.0

-- the order of a list that gained such an item
pub ordered_gained : (y : Key × ℕ) (xs ys : List (Key × ℕ)) → Gains y xs ys → AllByRecursion (λ x. x.1 < y.1) xs → by_number ys ≡ by_number xs ++ y ∷ []
ordered_gained y xs ys g a =
    ap by_number g.after
    ∙ ordered_with y g.front g.back (subst (AllByRecursion (λ x. x.1 < y.1)) g.before a)
    ∙ ap (λ zs. by_number zs ++ y ∷ []) (sym g.before)
