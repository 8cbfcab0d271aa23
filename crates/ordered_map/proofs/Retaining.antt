-- `retain`, so far.
use Rattle.std.proofs.Common.{◌≡◌, Bool, true, false, cond, List, [], ◌∷◌, ◌++◌, refl, sym, ap, subst, ◌∙◌}
use Rattle.std.specs.List.{FoldsTo}
use Rattle.std.specs.Map.Calls.{RetainsPairs, SomeCallAtPair}
use Rattle.ordered_map.specs.RetainsTo.{RetainsTo}

module _ {F K X : Type 0} (T : F → K → X → Bool → X → F → Type 0) where
  pub retains_append : (f g h : F) (xs xs' ys ys' : List (K × X)) → RetainsTo T f xs xs' g → RetainsTo T g ys ys' h → RetainsTo T f (xs ++ ys) (xs' ++ ys') h
  retains_append f g h [] xs' ys ys' a b = subst (λ k. RetainsTo T f ys (k ++ ys') h) (sym a.0) (subst (λ e. RetainsTo T e ys ys' h) (sym a.1) b)
  retains_append f g h (x ∷ xs) xs' ys ys' a b =
      (a.0, a.1, a.2, a.3 ++ ys', a.4, retains_append a.2 g h xs a.3 ys ys' a.5 b, ap (λ k. k ++ ys') a.6 ∙ joined a.0)
    where
      joined : (c : Bool) → cond c ((x.0, a.1) ∷ a.3) a.3 ++ ys' ≡ cond c ((x.0, a.1) ∷ (a.3 ++ ys')) (a.3 ++ ys')
      joined true = refl
      joined false = refl

  pub folds_from_retains : (f g : F) (xs xs' : List (K × X)) → RetainsTo T f xs xs' g → FoldsTo (SomeCallAtPair T) f xs g
  folds_from_retains f g [] xs' a = a.1
  folds_from_retains f g (x ∷ xs) xs' a = (a.2, (a.0, a.1, a.4), folds_from_retains a.2 g xs a.3 a.5)

  pub pairs_from_retains : (f g : F) (xs xs' : List (K × X)) → RetainsTo T f xs xs' g → RetainsPairs T f xs xs'
  pairs_from_retains f g [] xs' a = a.0
  pairs_from_retains f g (x ∷ xs) xs' a = (a.0, a.1, a.2, a.3, a.4, pairs_from_retains a.2 g xs a.3 a.5, a.6)

  pub retains_one : (f g : F) (k : K) (v : X) (b : Bool) (w : X) (xs ys : List (K × X)) → T f k v b w g → xs ≡ (k, v) ∷ [] → ys ≡ cond b ((k, w) ∷ []) [] → RetainsTo T f xs ys g
  retains_one f g k v b w xs ys t is after = subst (λ l. RetainsTo T f l ys g) (sym is) (b, w, g, [], t, (refl, refl), after)
