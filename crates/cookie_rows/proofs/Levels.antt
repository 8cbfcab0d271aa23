-- A list of something of groups of which one, that of a name, is changed.
use Rattle.std.proofs.Common.{◌≡◌, ℕ, Bool, true, false, List, [], ◌∷◌, ◌++◌, find, map, option_map, Option, refl, sym, ◌∙◌, ap, inl, inr, bytes_eq}
use Rattle.std.specs.List.{AllByRecursion, flat_map, list_any}
use Rattle.std.proofs.lemmas.Bool.{and_parts, cases_Bool, or_from, or_parts}
use Rattle.std.proofs.lemmas.List.Folds.{list_any-append}
use Rattle.cookie_parts.specs.Cookie.{Row}
use Rattle.cookie_laws.specs.Rows.{changed, differ}
use Rattle.cookie_rows.specs.GroupChanges.{changed_at, found}
use Rattle.cookie_rows.proofs.Flat.{changed_left, changed_right, find_left, find_right}
use Rattle.cookie_rows.proofs.Flat.{absent}

-- Items that pass the test are listed of groups of the name only.
module _ {X T : Type 0} (list : List ℕ → List X → List T) (test : T → Bool) (name : List ℕ)
    (elsewhere : (text : List ℕ) (xs : List X) → bytes_eq name text ≡ false → list_any test (list text xs) ≡ false) where
  -- the list of all groups
  abbrev listed : List (List ℕ × List X) → List T
  listed gs = flat_map (λ g. list g.0 g.1) gs

  -- none passes if no group has the name
  pub none_listed : (gs : List (List ℕ × List X)) → list_any (bytes_eq name) (map (λ g. g.0) gs) ≡ false → list_any test (listed gs) ≡ false
  none_listed [] none = refl
  none_listed (g ∷ gs) none =
      let parts = or_parts _ _ none in
      list_any-append test (list g.0 g.1) (listed gs) ∙ or_from _ _ (elsewhere g.0 g.1 parts.0) (none_listed gs parts.1)

  -- none passes behind the group of the name
  pub none_behind : (g : List ℕ × List X) (gs : List (List ℕ × List X)) → bytes_eq name g.0 ≡ true → differ bytes_eq (map (λ g. g.0) (g ∷ gs)) ≡ true → list_any test (listed gs) ≡ false
  none_behind g gs e apart = none_listed gs (absent g.0 (map (λ g. g.0) gs) name e apart)

  -- what is found in the group of the name is found in the list
  pub found_listed : (f : List X → Option Row) (see : T → Row) (gs : List (List ℕ × List X)) → differ bytes_eq (map (λ g. g.0) gs) ≡ true
      → AllByRecursion (λ g. bytes_eq name g.0 ≡ true → f g.1 ≡ option_map see (find test (list g.0 g.1))) gs → found f name gs ≡ option_map see (find test (listed gs))
  found_listed f see [] apart a = refl
  found_listed f see (g ∷ gs) apart a = elim (cases_Bool (bytes_eq name g.0)) [
    | inl e ↦ rw e (a.0 e ∙ ap (option_map see) (sym (find_left test (list g.0 g.1) (listed gs) (none_behind g gs e apart))))
    | inr e ↦ rw e (found_listed f see gs (and_parts _ _ apart).1 a.1 ∙ ap (option_map see) (sym (find_right test (list g.0 g.1) (listed gs) (elsewhere g.0 g.1 e))))
  ]

  -- what is changed in it is changed in the list
  pub changed_listed : (f : List X → List X) (change : T → T) (gs : List (List ℕ × List X)) → differ bytes_eq (map (λ g. g.0) gs) ≡ true
      → AllByRecursion (λ g. bytes_eq name g.0 ≡ true → list g.0 (f g.1) ≡ changed test change (list g.0 g.1)) gs → listed (changed_at f name gs) ≡ changed test change (listed gs)
  changed_listed f change [] apart a = refl
  changed_listed f change (g ∷ gs) apart a = elim (cases_Bool (bytes_eq name g.0)) [
    | inl e ↦ rw e (ap (λ xs. xs ++ listed gs) (a.0 e) ∙ sym (changed_left test change (list g.0 g.1) (listed gs) (none_behind g gs e apart)))
    | inr e ↦ rw e (ap (λ ys. list g.0 g.1 ++ ys) (changed_listed f change gs (and_parts _ _ apart).1 a.1) ∙ sym (changed_right test change (list g.0 g.1) (listed gs) (elsewhere g.0 g.1 e)))
  ]
