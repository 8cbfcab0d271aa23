-- Groups in an ordered map.
use Rattle.std.proofs.Common.{◌≡◌, ℕ, Bool, true, false, List, [], ◌∷◌, ◌++◌, refl, ◌∙◌, ap, inl, inr, Some, None}
use Rattle.std.specs.Prelude.{string_bytes, String}
use Rattle.std.specs.Map.{lookup}
use Rattle.std.proofs.lemmas.Bool.{cases_Bool}
use Rattle.ordered_map.specs.Entries.{moved_to_end}
use Rattle.cookie_rows.specs.Eviction.{moved_to_end_if}
use Rattle.cookie_rows.specs.GroupChanges.{texts_by}
use Rattle.cookie_rows.proofs.Maps.{at_text}

-- In this module `g` is what a value of the map has in order.
module _ {A V X : Type 0} (g : V → List X) (alone : List X → Bool) (text : List ℕ) where
  -- the group of the text, which is alone, was moved last
  pub moved_last : (es : List (String A × V)) (v : V) → Some v ≡ lookup (at_text text) es → alone (g v) ≡ true
      → texts_by g (moved_to_end (at_text text) es) ≡ moved_to_end_if alone text (texts_by g es)
  moved_last [] v l a = refl
  moved_last (e ∷ es) v l a = elim (cases_Bool (at_text text e.0)) [
    | inl t ↦ let l' = rw t at l in let same : e.1 ≡ v = cc in let a' : alone (g e.1) ≡ true = ap (λ w. alone (g w)) same ∙ a in rw (t, a') (last es)
    | inr t ↦ let l' = rw t at l in rw t (ap (λ gs. (string_bytes e.0, g e.1) ∷ gs) (moved_last es v l' a))
  ]
    where
      last : (es : List (String A × V)) → texts_by g (es ++ e ∷ []) ≡ texts_by g es ++ (string_bytes e.0, g e.1) ∷ []
      last [] = refl
      last (f ∷ es) = ap (λ gs. (string_bytes f.0, g f.1) ∷ gs) (last es)

  -- the group of the text is not alone, and is unchanged
  pub map_stays : (es : List (String A × V)) (v : V) → Some v ≡ lookup (at_text text) es → alone (g v) ≡ false → moved_to_end_if alone text (texts_by g es) ≡ texts_by g es
  map_stays [] v l a = refl
  map_stays (e ∷ es) v l a = elim (cases_Bool (at_text text e.0)) [
    | inl t ↦ let l' = rw t at l in let same : e.1 ≡ v = cc in let a' : alone (g e.1) ≡ false = ap (λ w. alone (g w)) same ∙ a in rw (t, a') refl
    | inr t ↦ let l' = rw t at l in rw t (ap (λ gs. (string_bytes e.0, g e.1) ∷ gs) (map_stays es v l' a))
  ]

  -- there is none, and all are unchanged
  pub map_stays_none : (es : List (String A × V)) → None ≡ lookup (at_text text) es → moved_to_end_if alone text (texts_by g es) ≡ texts_by g es
  map_stays_none [] l = refl
  map_stays_none (e ∷ es) l = elim (cases_Bool (at_text text e.0)) [
    | inl t ↦ let l' = rw t at l in absurd (cc)
    | inr t ↦ let l' = rw t at l in rw t (ap (λ gs. (string_bytes e.0, g e.1) ∷ gs) (map_stays_none es l'))
  ]
