-- A row is removed from a list at its position.
use Rattle.std.proofs.Common.{◌≡◌, ℕ, zero, suc, true, false, List, [], ◌∷◌, not, refl, ap, bytes_eq}
use Rattle.std.specs.List.{list_any, remove}
use Rattle.std.proofs.lemmas.Bool.{and_from, and_parts, not-true, or_from, or_parts}
use Rattle.cookie_rows.specs.Items.{Item}
use Rattle.cookie_rows.specs.NameMaps.{names_differ, names_in}

-- a name that no row has, none of the others has
none_left : (name : List ℕ) (xs : List Item) (index : ℕ) → list_any (bytes_eq name) (names_in xs) ≡ false → list_any (bytes_eq name) (names_in (remove xs index)) ≡ false
none_left name [] zero none = refl
none_left name [] (suc index) none = refl
none_left name (x ∷ xs) zero none = (or_parts _ _ none).1
none_left name (x ∷ xs) (suc index) none = let parts = or_parts _ _ none in or_from _ _ parts.0 (none_left name xs index parts.1)

-- names still differ
pub differ_left : (xs : List Item) (index : ℕ) → names_differ xs ≡ true → names_differ (remove xs index) ≡ true
differ_left [] zero d = refl
differ_left [] (suc index) d = refl
differ_left (x ∷ xs) zero d = (and_parts _ _ d).1
differ_left (x ∷ xs) (suc index) d =
    let parts = and_parts _ _ d in
    and_from _ _ (ap not (none_left x.row.raw.name xs index (not-true _ parts.0))) (differ_left xs index parts.1)
