-- Items that are alike are adjacent after `after_last`.
use Rattle.std.proofs.Common.{◌≡◌, Bool, true, false, not, ◌&&◌, ◌||◌, List, [], ◌∷◌, refl, ◌∙◌, sym, ⊎_elim, arith}
use Rattle.std.specs.List.{list_any}
use Rattle.std.specs.Cmp.{IsEquivalence}
use Rattle.std.proofs.lemmas.Bool.{cond_both, and_parts, and_from, or_parts, both_ways, not-true, false_from_ne_true, cases_Bool}
use Rattle.std.proofs.lemmas.Map.Steps.{list_any_congr}
use Rattle.cookie_laws.specs.Rows.{after_last, differ, are_adjacent}
use Rattle.cookie_rows.proofs.AfterLast.{starts, list_any-after_last, starts-after_last}

-- if an item passes, the first one does
abbrev pub begins : {T : Type 0} → (T → Bool) → List T → Bool
begins p xs = starts p xs || not (list_any p xs)

-- the step of `are_adjacent`
are_adjacent-cons : {T : Type 0} (alike : T → T → Bool) (x : T) (xs : List T) → are_adjacent alike (x ∷ xs) ≡ (begins (alike x) xs && are_adjacent alike xs)
are_adjacent-cons alike x [] = refl
are_adjacent-cons alike x (y ∷ ys) = grind arith

-- a list whose alike items are adjacent: its first item and the rest
pub together-parts : {T : Type 0} (alike : T → T → Bool) (x : T) (xs : List T) → are_adjacent alike (x ∷ xs) ≡ true → (begins (alike x) xs ≡ true) × (are_adjacent alike xs ≡ true)
together-parts alike x xs h = and_parts _ _ (rw are_adjacent-cons at h)

-- and back
pub together-from : {T : Type 0} (alike : T → T → Bool) (x : T) (xs : List T) → begins (alike x) xs ≡ true → are_adjacent alike xs ≡ true → are_adjacent alike (x ∷ xs) ≡ true
together-from alike x xs first rest = rw are_adjacent-cons (and_from _ _ first rest)

-- y changes nothing if it does not pass or another item does
begins-after_last : {T : Type 0} (p test : T → Bool) (xs : List T) (y : T) → (p y ≡ true → list_any p xs ≡ true) → begins p xs ≡ true → begins p (after_last test xs y) ≡ true
begins-after_last p test [] y view_of h = grind arith
begins-after_last p test (x ∷ xs) y view_of h = grind (arith, starts-after_last p test x xs y, list_any-after_last p test (x ∷ xs) y)

-- items that are alike are followed alike
pub begins_congr : {T : Type 0} {alike : T → T → Bool} → IsEquivalence alike → (x y : T) (xs : List T) → alike x y ≡ true → begins (alike x) xs ≡ begins (alike y) xs
begins_congr laws x y [] e = refl
begins_congr laws x y (z ∷ zs) e = grind (arith, laws.congr x y z e, list_any_congr laws x y zs e)

-- if an item passes a test, one passes a test that is no stricter
any_coarser : {T : Type 0} (p q : T → Bool) (xs : List T) → ((x : T) → p x ≡ true → q x ≡ true) → list_any p xs ≡ true → list_any q xs ≡ true
any_coarser p q [] implies h = h
any_coarser p q (x ∷ xs) implies h = grind (arith, implies x, any_coarser p q xs implies)

-- if no item passes a test, none passes a stricter one
pub none_finer : {T : Type 0} (p q : T → Bool) (xs : List T) → ((x : T) → p x ≡ true → q x ≡ true) → list_any q xs ≡ false → list_any p xs ≡ false
none_finer p q xs implies none = false_from_ne_true _ (λ some. both_ways _ none (any_coarser p q xs implies some))

-- items still differ if none is the same as y
pub differ-after_last : {T : Type 0} (same : T → T → Bool) (test : T → Bool) → IsEquivalence same → (xs : List T) (y : T) → list_any (same y) xs ≡ false → differ same xs ≡ true → differ same (after_last test xs y) ≡ true
differ-after_last same test laws [] y new h = refl
differ-after_last same test laws (x ∷ xs) y new h = grind (arith, laws.symm x y, list_any-after_last (same x) test xs y, differ-after_last same test laws xs y)

-- y right after an item that is like it
together-next : {T : Type 0} {alike : T → T → Bool} → IsEquivalence alike → (x y : T) (xs : List T) → alike x y ≡ true → are_adjacent alike (x ∷ xs) ≡ true → are_adjacent alike (x ∷ y ∷ xs) ≡ true
together-next {alike = alike} laws x y xs e h = grind (arith, are_adjacent-cons alike x xs, are_adjacent-cons alike y xs, begins_congr laws x y xs e)

-- y right after an item, if none of the rest is like either
together-apart : {T : Type 0} (alike : T → T → Bool) (x y : T) (xs : List T) → list_any (alike x) xs ≡ false → list_any (alike y) xs ≡ false → alike x y ≡ false → are_adjacent alike (x ∷ xs) ≡ true → are_adjacent alike (x ∷ y ∷ xs) ≡ true
together-apart alike x y xs first second apart h = grind (arith, are_adjacent-cons alike x xs, are_adjacent-cons alike y xs)

-- y further on, after an item that isn't like it or that is followed by another such
together-further : {T : Type 0} (alike : T → T → Bool) (test : T → Bool) (x : T) (xs : List T) (y : T) → (alike x y ≡ true → list_any (alike x) xs ≡ true) → are_adjacent alike (x ∷ xs) ≡ true → are_adjacent alike (after_last test xs y) ≡ true → are_adjacent alike (x ∷ after_last test xs y) ≡ true
together-further alike test x xs y view_of h rest =
    together-from alike x (after_last test xs y) (begins-after_last (alike x) test xs y view_of (together-parts alike x xs h).0) rest

-- if an item passes, but the first is not the last one that does, one of the rest passes
some_further : (here rest : Bool) → (here || rest) ≡ true → (here && not rest) ≡ false → rest ≡ true
some_further here rest some e = grind arith

-- two relations, the one stricter than the other
module _ {T : Type 0} {finer coarser : T → T → Bool} (fine : IsEquivalence finer) (coarse : IsEquivalence coarser) (implies : (a b : T) → finer a b ≡ true → coarser a b ≡ true) where
  -- if one of the items is like y, and x is like y less strictly, one is like x
  viewed_further : (x y : T) (xs : List T) → list_any (finer y) xs ≡ true → coarser x y ≡ true → list_any (coarser x) xs ≡ true
  viewed_further x y xs some like = list_any_congr coarse x y xs like ∙ any_coarser (finer y) (coarser y) xs (implies y) some

  -- y is right after an item that is like it
  pub together-after_like : (xs : List T) (y : T) → list_any (finer y) xs ≡ true → are_adjacent coarser xs ≡ true → are_adjacent coarser (after_last (finer y) xs y) ≡ true
  together-after_like [] y some h = refl
  together-after_like (x ∷ xs) y some h =
      cond_both (finer y x && not (list_any (finer y) xs)) (x ∷ y ∷ xs) (x ∷ after_last (finer y) xs y) (λ zs. are_adjacent coarser zs ≡ true)
      (λ e. together-next coarse x y xs (coarse.symm x y ∙ implies y x (and_parts _ _ e).0) h)
      (λ e.
      let rest : list_any (finer y) xs ≡ true = some_further _ _ some e in
      let further : are_adjacent coarser (after_last (finer y) xs y) ≡ true = together-after_like xs y rest (together-parts coarser x xs h).1 in
      together-further coarser (finer y) x xs y (viewed_further x y xs rest) h further)

  -- none of the rest is like x, if none is like y less strictly
  none_further : (x y : T) (xs : List T) → coarser y x ≡ true → list_any (coarser y) xs ≡ false → list_any (finer x) xs ≡ false
  none_further x y xs like none = none_finer (finer x) (coarser x) xs (implies x) (sym (list_any_congr coarse y x xs like) ∙ none)

  -- no item is like y, and y is at the end of those that are so less strictly
  pub together-after_unlike : (xs : List T) (y : T) → list_any (finer y) xs ≡ false → are_adjacent finer xs ≡ true → are_adjacent finer (after_last (coarser y) xs y) ≡ true
  together-after_unlike [] y none h = refl
  together-after_unlike (x ∷ xs) y none h =
      let apart : finer x y ≡ false = fine.symm x y ∙ (or_parts _ _ none).0 in
      let rest : list_any (finer y) xs ≡ false = (or_parts _ _ none).1 in
      let further : are_adjacent finer (after_last (coarser y) xs y) ≡ true = together-after_unlike xs y rest (together-parts finer x xs h).1 in
      cond_both (coarser y x && not (list_any (coarser y) xs)) (x ∷ y ∷ xs) (x ∷ after_last (coarser y) xs y) (λ zs. are_adjacent finer zs ≡ true)
      (λ e. together-apart finer x y xs (none_further x y xs (and_parts _ _ e).0 (not-true _ (and_parts _ _ e).1)) rest apart h)
      (λ e. together-further finer (coarser y) x xs y (λ like. absurd (both_ways _ apart like)) h further)

-- y is at the end of the items that are like it, if there are any
pub together-after_any : {T : Type 0} {alike : T → T → Bool} → IsEquivalence alike → (xs : List T) (y : T) → are_adjacent alike xs ≡ true → are_adjacent alike (after_last (alike y) xs y) ≡ true
together-after_any {alike = alike} laws xs y h = ⊎_elim
    (λ some. together-after_like laws laws (λ a b e. e) xs y some h)
    (λ none. together-after_unlike laws laws (λ a b e. e) xs y none h)
    (cases_Bool (list_any (alike y) xs))
