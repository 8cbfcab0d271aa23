-- The groups of a domain in a map of domains.
use Rattle.std.proofs.Common.{◌≡◌, ℕ, suc, Option, List, ap, [], ◌∷◌, inl, inr, refl, sym, Some, None}
use Rattle.std.specs.Prelude.{String, option_map}
use Rattle.std.specs.Map.{lookup}
use Rattle.std.proofs.lemmas.Bool.{cases_Bool}
use Rattle.cookie_lookup.specs.SearchView.{group_position}
use Rattle.cookie_rows.specs.Eviction.{paths_of}
use Rattle.cookie_rows.specs.GroupChanges.{texts_by}
use Rattle.cookie_rows.specs.Items.{ItemPaths}
use Rattle.cookie_rows.proofs.Maps.{at_text}

-- In these modules `g` is what a value of the map has in order.
module _ {A V : Type 0} (g : V → ItemPaths) (d : List ℕ) where
  -- the groups of the domain are those in the map
  pub paths_some : (es : List (String A × V)) (v : V) → Some v ≡ lookup (at_text d) es → paths_of d (texts_by g es) ≡ g v
  paths_some [] v l = absurd (cc)
  paths_some (e ∷ es) v l = elim (cases_Bool (at_text d e.0)) [
    | inl t ↦ let l' = rw t at l in let same : v ≡ e.1 = cc in rw t (ap g (sym same))
    | inr t ↦ let l' = rw t at l in rw t (paths_some es v l')
  ]

  -- or there are none
  pub paths_none : (es : List (String A × V)) → None ≡ lookup (at_text d) es → paths_of d (texts_by g es) ≡ []
  paths_none [] l = refl
  paths_none (e ∷ es) l = elim (cases_Bool (at_text d e.0)) [
    | inl t ↦ let l' = rw t at l in absurd (cc)
    | inr t ↦ let l' = rw t at l in rw t (paths_none es l')
  ]

module _ {A V X : Type 0} (g : V → List X) (d : List ℕ) where
  -- then the domain has no position
  pub position_none : (es : List (String A × V)) → None ≡ lookup (at_text d) es → group_position d (texts_by g es) ≡ None
  position_none [] l = refl
  position_none (e ∷ es) l = elim (cases_Bool (at_text d e.0)) [
    | inl t ↦ let l' = rw t at l in absurd (cc)
    | inr t ↦ let l' = rw t at l in rw t (ap (option_map suc) (position_none es l'))
  ]

  -- and back
  pub lookup_none : (es : List (String A × V)) → group_position d (texts_by g es) ≡ None → None ≡ lookup (at_text d) es
  lookup_none [] l = refl
  lookup_none (e ∷ es) l = elim (cases_Bool (at_text d e.0)) [
    | inl t ↦ let l' = rw t at l in absurd (cc)
    | inr t ↦ let l' = rw t at l in rw t (lookup_none es (none_behind (group_position d (texts_by g es)) l'))
  ]
    where
      -- no position further on is none
      none_behind : (o : Option ℕ) → option_map suc o ≡ None → o ≡ None
      none_behind None h = refl
      none_behind (Some n) h = absurd (cc)
