-- The one list of rows, by its parts.
use Rattle.std.proofs.Common.{◌≡◌, ◌⊎◌, Bool, true, false, List, [], ◌∷◌, ◌++◌, refl, sym, subst, inl, inr, bytes_eq, arith, append-nil, find, None, ℕ}
use Rattle.std.specs.Prelude.{if◌then◌else◌}
use Rattle.std.specs.List.{AllByRecursion, list_any}
use Rattle.std.proofs.lemmas.Bool.Decides.{nat_tests}
use Rattle.std.proofs.lemmas.List.Folds.{list_any-append}
use Rattle.std.proofs.lemmas.Slice.Eq.{bytes_eq-Decides}
use Rattle.cookie_laws.specs.Rows.{after_last, changed, differ}

module _ {X : Type 0} where
  -- `put`, by any three tests and any change
  abbrev pub put_by : (X → Bool) → (X → Bool) → (X → Bool) → (X → X) → List X → X → List X
  put_by key group domain change xs y = if list_any key xs then changed key change xs else (if list_any group xs then after_last group xs y else after_last domain xs y)

  -- none passes in the first list
  after_right : (t : X → Bool) (xs ys : List X) (y : X) → list_any t xs ≡ false → after_last t (xs ++ ys) y ≡ xs ++ after_last t ys y
  after_right t [] ys y n = refl
  after_right t (x ∷ xs) ys y n = grind (arith, nat_tests, n, after_right t xs ys y)

  -- some pass in the first list, and none in the second
  after_left : (t : X → Bool) (xs ys : List X) (y : X) → list_any t xs ≡ true → list_any t ys ≡ false → after_last t (xs ++ ys) y ≡ after_last t xs y ++ ys
  after_left t [] ys y a n = absurd (cc)
  after_left t (x ∷ xs) ys y a n = grind (arith, nat_tests, a, n, list_any-append t xs ys, after_left t xs ys y)

  -- some pass in the second list
  after_there : (t : X → Bool) (xs ys : List X) (y : X) → list_any t ys ≡ true → after_last t (xs ++ ys) y ≡ xs ++ after_last t ys y
  after_there t [] ys y a = refl
  after_there t (x ∷ xs) ys y a = grind (arith, nat_tests, a, list_any-append t xs ys, after_there t xs ys y a)

  -- all pass
  pub after_all : (t : X → Bool) (xs : List X) (y : X) → AllByRecursion (λ x. t x ≡ true) xs → after_last t xs y ≡ xs ++ y ∷ []
  after_all t [] y a = refl
  after_all t (x ∷ []) y a = grind (arith, nat_tests, a.0)
  after_all t (x ∷ z ∷ xs) y a = let h = after_all t (z ∷ xs) y a.1 in grind (arith, nat_tests, h, a.0, a.1.0)

  module _ (t : X → Bool) (f : X → X) where
    -- none passes
    pub changed_none : (xs : List X) → list_any t xs ≡ false → changed t f xs ≡ xs
    changed_none [] n = refl
    changed_none (x ∷ xs) n = grind (arith, nat_tests, n, changed_none xs)

    -- none passes in the first list
    pub changed_right : (xs ys : List X) → list_any t xs ≡ false → changed t f (xs ++ ys) ≡ xs ++ changed t f ys
    changed_right [] ys n = refl
    changed_right (x ∷ xs) ys n = grind (arith, nat_tests, n, changed_right xs ys)

    -- none passes in the second list
    pub changed_left : (xs ys : List X) → list_any t ys ≡ false → changed t f (xs ++ ys) ≡ changed t f xs ++ ys
    changed_left [] ys n = changed_none ys n
    changed_left (x ∷ xs) ys n = grind (arith, nat_tests, changed_left xs ys n)

    -- some pass in the first list
    pub changed_there : (xs ys : List X) → list_any t xs ≡ true → changed t f (xs ++ ys) ≡ changed t f xs ++ ys
    changed_there [] ys n = absurd (cc)
    changed_there (x ∷ xs) ys n = grind (arith, nat_tests, n, changed_there xs ys)

  module _ (t : X → Bool) where
    -- none passes
    pub find_none : (xs : List X) → list_any t xs ≡ false → find t xs ≡ None
    find_none [] h = refl
    find_none (x ∷ xs) h = grind (arith, nat_tests, h, find_none xs)

    -- none passes in the first list
    pub find_right : (xs ys : List X) → list_any t xs ≡ false → find t (xs ++ ys) ≡ find t ys
    find_right [] ys h = refl
    find_right (x ∷ xs) ys h = grind (arith, nat_tests, h, find_right xs ys)

    -- none passes in the second list
    pub find_left : (xs ys : List X) → list_any t ys ≡ false → find t (xs ++ ys) ≡ find t xs
    find_left [] ys h = find_none ys h
    find_left (x ∷ xs) ys h = grind (arith, nat_tests, find_left xs ys h)

  module _ (k g d : X → Bool) (f : X → X) where
    -- nothing of the domain in front
    pub put_right : (xs ys : List X) (y : X) → list_any k xs ≡ false → list_any g xs ≡ false → list_any d xs ≡ false → put_by k g d f (xs ++ ys) y ≡ xs ++ put_by k g d f ys y
    put_right xs ys y a b c =
        grind (arith, nat_tests, a, b, c, list_any-append k xs ys, list_any-append g xs ys, changed_right k f xs ys a, after_right g xs ys y b, after_right d xs ys y c)

    -- nothing of the domain behind, and something in front
    pub put_left : (xs ys : List X) (y : X) → list_any k ys ≡ false → list_any g ys ≡ false → list_any d ys ≡ false → list_any d xs ≡ true → put_by k g d f (xs ++ ys) y ≡ put_by k g d f xs y ++ ys
    put_left xs ys y a b c h =
        grind (arith, nat_tests, a, b, c, h, list_any-append k xs ys, list_any-append g xs ys, changed_there k f xs ys, after_left g xs ys y, after_left d xs ys y h c)

    -- in a domain: nothing of the group in front
    pub put_later : (xs ys : List X) (y : X) → list_any k xs ≡ false → list_any g xs ≡ false → AllByRecursion (λ x. d x ≡ true) xs → (list_any d ys ≡ true) ⊎ (ys ≡ []) → put_by k g d f (xs ++ ys) y ≡ xs ++ put_by k g d f ys y
    put_later xs ys y a b all o = elim o [
      | inl h ↦ grind (arith, nat_tests, a, b, h, list_any-append k xs ys, list_any-append g xs ys, changed_right k f xs ys a, after_right g xs ys y b, after_there d xs ys y h)
      | inr e ↦ subst (λ zs. put_by k g d f (xs ++ zs) y ≡ xs ++ put_by k g d f zs y) (sym e) (rw (append-nil xs, a, b) (after_all d xs y all))
    ]

    -- in a domain: nothing of the group behind, and something in front
    pub put_earlier : (xs ys : List X) (y : X) → list_any k ys ≡ false → list_any g ys ≡ false → list_any g xs ≡ true → put_by k g d f (xs ++ ys) y ≡ put_by k g d f xs y ++ ys
    put_earlier xs ys y a b h =
        grind (arith, nat_tests, a, b, h, list_any-append k xs ys, list_any-append g xs ys, changed_there k f xs ys, after_left g xs ys y)

-- names that differ

-- the rest is without the first one
pub absent : (k : List ℕ) (keys : List (List ℕ)) (t : List ℕ) → bytes_eq t k ≡ true → differ bytes_eq (k ∷ keys) ≡ true → list_any (bytes_eq t) keys ≡ false
absent k keys t e d =
    let no : list_any (bytes_eq k) keys ≡ false = grind (arith, nat_tests, d) in
    subst (λ x. list_any (bytes_eq x) keys ≡ false) (sym ((bytes_eq-Decides t k).0 e)) no
