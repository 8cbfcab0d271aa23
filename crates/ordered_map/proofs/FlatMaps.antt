-- Lists of lists, piece by piece, and elements by position.
use Rattle.std.proofs.Common.{◌≡◌, ◌≢◌, ℕ, zero, suc, ◌+◌, ◌<◌, ◌≤◌, List, [], ◌∷◌, ◌++◌, length, get_or, take, drop, set, map, Option, None, Some, slice_get, refl, sym, ap, ◌∙◌, arith}
use Rattle.std.specs.List.{flat_map, AllByRecursion}
use Rattle.std.specs.Option.{option_map, option_to_list}
use Rattle.std.proofs.lemmas.List.{append_assoc, map-append, get_or-take, get_or-drop, length-take, length-drop}
use Rattle.std.proofs.lemmas.Option.{slice_get_past, none-some, same_Some, slice_get-map}
use Rattle.ordered_map.specs.Layout.{at_position}

pub flat_map_same : {A : Type 0} (f g : ℕ → List A) (d : ℕ) (xs ys : List ℕ) → length xs ≡ length ys → ((k : ℕ) → k < length xs → f (get_or xs k d) ≡ g (get_or ys k d)) → flat_map f xs ≡ flat_map g ys
flat_map_same f g d [] [] e h = refl
flat_map_same f g d [] (y ∷ ys) e h = absurd (omega arith)
flat_map_same f g d (x ∷ xs) [] e h = absurd (omega arith)
flat_map_same f g d (x ∷ xs) (y ∷ ys) e h =
    let a : f x ≡ g y = h 0 (omega arith) in
    let b : flat_map f xs ≡ flat_map g ys = flat_map_same f g d xs ys (omega arith) (λ k l. h (suc k) (omega arith)) in
    λ i. a i ++ b i

-- what comes before a position, there, and after
pub flat_map_at : {A : Type 0} (f : ℕ → List A) (d : ℕ) (xs : List ℕ) (i : ℕ) → i < length xs → flat_map f xs ≡ flat_map f (take i xs) ++ (f (get_or xs i d) ++ flat_map f (drop (suc i) xs))
flat_map_at f d [] i l = absurd (omega arith)
flat_map_at f d (x ∷ xs) zero l = refl
flat_map_at f d (x ∷ xs) (suc i) l =
    ap (λ r. f x ++ r) (flat_map_at f d xs i (omega arith)) ∙ sym (append_assoc (f x) (flat_map f (take i xs)) (f (get_or xs i d) ++ flat_map f (drop (suc i) xs)))

module _ {A : Type 0} (f g : ℕ → List A) (d : ℕ) (xs ys : List ℕ) (long : length xs ≡ length ys) (p : ℕ) (same : (k : ℕ) → k ≢ p → f (get_or xs k d) ≡ g (get_or ys k d)) where
  pub same_before : flat_map f (take p xs) ≡ flat_map g (take p ys)
  same_before = flat_map_same f g d (take p xs) (take p ys) (omega (arith, length-take p xs, length-take p ys)) (λ k (l : k < length (take p xs)).
      let below : k < p = omega (arith, length-take p xs) in
      ap f (get_or-take p xs k d below) ∙ same k (omega arith) ∙ sym (ap g (get_or-take p ys k d below)))

  pub same_after : flat_map f (drop (suc p) xs) ≡ flat_map g (drop (suc p) ys)
  same_after = flat_map_same f g d (drop (suc p) xs) (drop (suc p) ys) (omega (arith, length-drop (suc p) xs, length-drop (suc p) ys)) (λ k (l : k < length (drop (suc p) xs)).
      ap f (get_or-drop (suc p) xs k d) ∙ same (suc p + k) (omega arith) ∙ sym (ap g (get_or-drop (suc p) ys k d)))

pub all_flat_map : {A : Type 0} (P : A → Type 0) (f : ℕ → List A) (d : ℕ) (xs : List ℕ) → ((k : ℕ) → k < length xs → AllByRecursion P (f (get_or xs k d))) → AllByRecursion P (flat_map f xs)
all_flat_map P f d [] h = tt
all_flat_map {A = A} P f d (x ∷ xs) h = joined (f x) _ (h 0 (omega arith)) (all_flat_map P f d xs (λ k l. h (suc k) (omega arith)))
  where
    joined : (ys zs : List A) → AllByRecursion P ys → AllByRecursion P zs → AllByRecursion P (ys ++ zs)
    joined [] zs a b = b
    joined (y ∷ ys) zs a b = (a.0, joined ys zs a.1 b)

module _ {X : Type 0} where
  pub all_at_position : (P : X → Type 0) (xs : List X) (j : ℕ) → ((x : X) → slice_get xs j ≡ Some x → P x) → AllByRecursion P (at_position xs j)
  all_at_position P xs j h = one_of (slice_get xs j) h
    where
      one_of : (o : Option X) → ((x : X) → o ≡ Some x → P x) → AllByRecursion P (option_to_list o)
      one_of None h = tt
      one_of (Some x) h = (h x refl, tt)

  pub get_or_map_at : (f : X → ℕ) (xs : List X) (at : ℕ) (x : X) (d : ℕ) → slice_get xs at ≡ Some x → get_or (map f xs) at d ≡ f x
  get_or_map_at f [] at x d e = absurd (none-some x e)
  get_or_map_at f (y ∷ ys) zero x d e = ap f (same_Some y x e)
  get_or_map_at f (y ∷ ys) (suc at) x d e = get_or_map_at f ys at x d e

  pub slice_get_take : (xs : List X) (n j : ℕ) → j < n → slice_get (take n xs) j ≡ slice_get xs j
  slice_get_take xs zero j l = absurd (omega arith)
  slice_get_take [] (suc n) j l = refl
  slice_get_take (x ∷ xs) (suc n) zero l = refl
  slice_get_take (x ∷ xs) (suc n) (suc j) l = slice_get_take xs n j (omega arith)

  pub at_position_past : (xs : List X) (j : ℕ) → length xs ≤ j → at_position xs j ≡ []
  at_position_past xs j l = ap option_to_list (slice_get_past xs j l)

  pub at_position_here : (xs : List X) (j : ℕ) (x : X) → slice_get xs j ≡ Some x → at_position xs j ≡ x ∷ []
  at_position_here xs j x e = ap option_to_list e

  -- an element within the list
  pub at_within : (xs : List X) (j : ℕ) → j < length xs → (x : X) × (slice_get xs j ≡ Some x)
  at_within [] j l = absurd (omega arith)
  at_within (x ∷ xs) zero l = (x, refl)
  at_within (x ∷ xs) (suc j) l = at_within xs j (omega arith)

  pub slice_get_append : (xs ys : List X) (j : ℕ) → j < length xs → slice_get (xs ++ ys) j ≡ slice_get xs j
  slice_get_append [] ys j l = absurd (omega arith)
  slice_get_append (x ∷ xs) ys zero l = refl
  slice_get_append (x ∷ xs) ys (suc j) l = slice_get_append xs ys j (omega arith)

  pub slice_get_push : (xs : List X) (x : X) → slice_get (xs ++ x ∷ []) (length xs) ≡ Some x
  slice_get_push [] x = refl
  slice_get_push (y ∷ xs) x = slice_get_push xs x

  pub slice_get_set_same : (xs : List X) (i : ℕ) (x : X) → i < length xs → slice_get (set xs i x) i ≡ Some x
  slice_get_set_same [] i x l = absurd (omega arith)
  slice_get_set_same (y ∷ xs) zero x l = refl
  slice_get_set_same (y ∷ xs) (suc i) x l = slice_get_set_same xs i x (omega arith)

  pub slice_get_set_other : (xs : List X) (i j : ℕ) (x : X) → j ≢ i → slice_get (set xs i x) j ≡ slice_get xs j
  slice_get_set_other [] i j x ne = refl
  slice_get_set_other (y ∷ xs) zero zero x ne = absurd (ne refl)
  slice_get_set_other (y ∷ xs) zero (suc j) x ne = refl
  slice_get_set_other (y ∷ xs) (suc i) zero x ne = refl
  slice_get_set_other (y ∷ xs) (suc i) (suc j) x ne = slice_get_set_other xs i j x (λ e. ne (ap suc e))

-- a map of the entries at positions
pub map_at_positions : {X Y : Type 0} (f : X → Y) (xs : List X) (ks : List ℕ) → map f (flat_map (at_position xs) ks) ≡ flat_map (at_position (map f xs)) ks
map_at_positions f xs [] = refl
map_at_positions {X = X} f xs (k ∷ ks) =
    map-append f (at_position xs k) (flat_map (at_position xs) ks) ∙ (λ i. one i ++ map_at_positions f xs ks i)
  where
    by : (o : Option X) → map f (option_to_list o) ≡ option_to_list (option_map f o)
    by None = refl
    by (Some x) = refl

    one : map f (at_position xs k) ≡ at_position (map f xs) k
    one = by (slice_get xs k) ∙ ap option_to_list (sym (slice_get-map f xs k))

-- there are no more entries than positions
pub fewer_entries : {X : Type 0} (xs : List X) (ks : List ℕ) → length (flat_map (at_position xs) ks) ≤ length ks
fewer_entries xs [] = omega arith
fewer_entries {X = X} xs (j ∷ ks) = by (slice_get xs j) (fewer_entries xs ks)
  where
    by : (o : Option X) → length (flat_map (at_position xs) ks) ≤ length ks → length (option_to_list o ++ flat_map (at_position xs) ks) ≤ suc (length ks)
    by None h = omega arith
    by (Some x) h = omega arith
