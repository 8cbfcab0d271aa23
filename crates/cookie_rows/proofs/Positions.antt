-- The first item of a list that passes a test, by its position.
use Rattle.std.proofs.Common.{◌≡◌, ℕ, suc, ◌+◌, Bool, true, false, not, List, [], ◌∷◌, length, ltb, get_or, set, Option, Some, None, refl, ap, ◌∙◌, arith}
use Rattle.std.specs.Prelude.{is_some, if◌then◌else◌}
use Rattle.std.specs.List.{list_any, find, position, position_or_len, remove}
use Rattle.std.proofs.lemmas.Bool.{or_parts, true≢false}
use Rattle.std.proofs.lemmas.Bool.Decides.{nat_tests}
use Rattle.cookie_laws.specs.Rows.{changed, removed}

module _ {T : Type 0} (test : T → Bool) where
  -- it is within the list if an item passes
  first_within : (xs : List T) → ltb (position_or_len test xs) (length xs) ≡ list_any test xs
  first_within [] = refl
  first_within (x ∷ xs) = grind (arith, nat_tests, first_within xs)

  -- to write it changed is to change it
  change_first : (change : T → T) (xs : List T) (d : T) → set xs (position_or_len test xs) (change (get_or xs (position_or_len test xs) d)) ≡ changed test change xs
  change_first change [] d = refl
  change_first change (x ∷ xs) d = grind (arith, change_first change xs d)

  -- if no item passes, none is changed
  unchanged : (change : T → T) (xs : List T) → list_any test xs ≡ false → changed test change xs ≡ xs
  unchanged change [] h = refl
  unchanged change (x ∷ xs) h =
      let parts = or_parts (test x) (list_any test xs) h in
      rw parts.0 (ap (λ rest. x ∷ rest) (unchanged change xs parts.1))

  -- and none is removed
  removed_none : (xs : List T) → list_any test xs ≡ false → removed test xs ≡ xs
  removed_none [] h = refl
  removed_none (x ∷ xs) h =
      let parts = or_parts (test x) (list_any test xs) h in
      rw parts.0 (ap (λ rest. x ∷ rest) (removed_none xs parts.1))

  -- an item is found if one passes
  is_some_find : (xs : List T) → is_some (find test xs) ≡ list_any test xs
  is_some_find [] = refl
  is_some_find (x ∷ xs) = grind (arith, is_some_find xs)

  -- what is not there is none
  none_of : (o : Option T) → is_some o ≡ false → o ≡ None
  none_of None h = refl
  none_of (Some x) h = absurd (true≢false h)

  -- the removal of an item, at the front or behind it
  remove_step : (b : Bool) (x : T) (xs ys : List T) (n : ℕ) → remove xs n ≡ ys → remove (x ∷ xs) (if not b then 1 + n else 0) ≡ (if b then xs else x ∷ ys)
  remove_step true x xs ys n h = refl
  remove_step false x xs ys n h = let next : 1 + n ≡ suc n = omega arith in rw next (ap (λ rest. x ∷ rest) h)

  -- what is removed at the first position that passes is the first item that does
  remove_first : (xs : List T) → remove xs (position_or_len test xs) ≡ removed test xs
  remove_first [] = refl
  remove_first (x ∷ xs) = remove_step (test x) x xs (removed test xs) (position_or_len test xs) (remove_first xs)

  -- which is found
  find_first : (xs : List T) (d : T) → list_any test xs ≡ true → find test xs ≡ Some (get_or xs (position_or_len test xs) d)
  find_first [] d h = grind arith
  find_first (x ∷ xs) d h = grind (arith, find_first xs d)

  -- a position is the first that passes
  position_first : (xs : List T) (at : ℕ) → position test xs ≡ Some at → (at ≡ position_or_len test xs) × (list_any test xs ≡ true)
  position_first xs at h = grind (arith, first_within xs)

  -- an item passes if there is one
  pub passes : (xs : List T) (at : ℕ) → position test xs ≡ Some at → list_any test xs ≡ true
  passes xs at h = (position_first xs at h).1

  -- the item there is found
  pub found_at : (xs : List T) (at : ℕ) (d : T) → position test xs ≡ Some at → find test xs ≡ Some (get_or xs at d)
  found_at xs at d h =
      let first = position_first xs at h in
      rw first.0 (find_first xs d first.1)

  -- to write it changed is to change it
  pub changed_there : (change : T → T) (xs : List T) (at : ℕ) (d : T) → position test xs ≡ Some at → set xs at (change (get_or xs at d)) ≡ changed test change xs
  changed_there change xs at d h = rw (position_first xs at h).0 (change_first change xs d)

  -- and a removal there removes it
  pub removed_there : (xs : List T) (at : ℕ) → position test xs ≡ Some at → remove xs at ≡ removed test xs
  removed_there xs at h = rw (position_first xs at h).0 (remove_first xs)

  -- without a position no item passes
  none_passes : (xs : List T) → position test xs ≡ None → list_any test xs ≡ false
  none_passes xs h = grind (arith, first_within xs)

  -- none is found
  pub none_found : (xs : List T) → position test xs ≡ None → find test xs ≡ None
  none_found xs h = none_of (find test xs) (is_some_find xs ∙ none_passes xs h)

  -- none is changed
  pub none_changed : (change : T → T) (xs : List T) → position test xs ≡ None → changed test change xs ≡ xs
  none_changed change xs h = unchanged change xs (none_passes xs h)

  -- and none is removed
  pub none_removed : (xs : List T) → position test xs ≡ None → removed test xs ≡ xs
  none_removed xs h = removed_none xs (none_passes xs h)
