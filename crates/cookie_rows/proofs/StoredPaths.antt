-- The groups of a map of paths, by position.
use Rattle.std.proofs.Common.{◌≡◌, ◌==◌, ℕ, zero, suc, List, [], ◌∷◌, ◌++◌, length, map, slice_get, refl, sym, ap, ◌∙◌, inl, inr, bytes_eq, Option, Some, None, arith}
use Rattle.std.specs.Prelude.{option_map, position, string_bytes, String}
use Rattle.std.specs.List.{flat_map}
use Rattle.std.specs.Map.{keys_of, lookup, values_of}
use Rattle.std.proofs.lemmas.Bool.{cases_Bool}
use Rattle.ordered_map.specs.Entries.{Ordered, entries, in_order}
use Rattle.cookie_parts.specs.Cookie.{Row}
use Rattle.cookie_lookup.specs.SearchView.{group_position, under}
use Rattle.cookie_lookup.specs.Positions.{paths_in_order}
use Rattle.cookie_rows.specs.Eviction.{is_single_paths}
use Rattle.cookie_rows.specs.GroupChanges.{found, texts_by, texts_of}
use Rattle.cookie_rows.specs.Items.{Item}
use Rattle.cookie_rows.specs.Stored.{StoredItems, StoredPaths, stored_in}
use Rattle.cookie_rows.proofs.Maps.{at_text}
use Rattle.cookie_rows.proofs.Places.{place_is}
use Rattle.cookie_rows.proofs.StoredOrder.{stored_in_order}

module _ {A V : Type 0} where
  -- the entries with their keys as lists of bytes
  abbrev pub stored_texts : List (ℕ × (String A × V)) → List (ℕ × (List ℕ × V))
  stored_texts ps = map (λ e. (e.0, (string_bytes e.1.0, e.1.1))) ps

  keys : (ps : List (ℕ × (String A × V))) → keys_of (map (λ p. p.1) ps) ≡ map (λ p. p.1.0) ps
  keys [] = refl
  keys (p ∷ ps) = ap (λ ks. p.1.0 ∷ ks) (keys ps)

  texts : (ps : List (ℕ × (String A × V))) → texts_of (map (λ p. p.1) ps) ≡ map (λ p. p.1) (stored_texts ps)
  texts [] = refl
  texts (p ∷ ps) = ap (λ ts. (string_bytes p.1.0, p.1.1) ∷ ts) (texts ps)

  -- the position of a path
  pub stored_position : (q : List ℕ) (ps : List (ℕ × (String A × V))) → position (at_text q) (map (λ p. p.1.0) ps) ≡ group_position q (map (λ p. p.1) (stored_texts ps))
  stored_position q ps = ap (position (at_text q)) (sym (keys ps)) ∙ place_is q (map (λ p. p.1) ps) ∙ ap (group_position q) (texts ps)

-- what has a position is found at it

behind : (n : ℕ) (o : Option ℕ) → Some n ≡ option_map suc o → (m : ℕ) × (Some m ≡ o) × (n ≡ suc m)
behind n None is = absurd (cc)
behind n (Some m) is = let same : n ≡ suc m = cc in (m, refl, same)

none_behind : (o : Option ℕ) → None ≡ option_map suc o → None ≡ o
none_behind None h = refl
none_behind (Some n) h = absurd (cc)

module _ {A V : Type 0} (q : List ℕ) where
  -- the value of a key with a position
  pub present : (ps : List (ℕ × (String A × V))) (n : ℕ) → Some n ≡ group_position q (map (λ p. p.1) (stored_texts ps))
      → option_map (λ p. p.1.1) (slice_get ps n) ≡ lookup (at_text q) (map (λ p. p.1) ps)
  present [] n is = absurd (cc)
  present (p ∷ ps) n is = elim (cases_Bool (at_text q p.1.0)) [
    | inl t ↦ let is' = rw t at is in let first : n ≡ 0 = cc in rw (t, first) refl
    | inr t ↦
        let is' = rw t at is in
        let further = behind n (group_position q (map (λ p. p.1) (stored_texts ps))) is' in
        rw (t, further.2) (present ps further.0 further.1)
  ]

  -- there is a value
  pub none_found : (ps : List (ℕ × (String A × V))) (n : ℕ) → Some n ≡ group_position q (map (λ p. p.1) (stored_texts ps)) → None ≡ option_map (λ p. p.1.1) (slice_get ps n) → ⊥
  none_found [] n is none = cc
  none_found (p ∷ ps) n is none = elim (cases_Bool (at_text q p.1.0)) [
    | inl t ↦ let is' = rw t at is in let first : n ≡ 0 = cc in let none' = rw first at none in cc
    | inr t ↦
        let is' = rw t at is in
        let further = behind n (group_position q (map (λ p. p.1) (stored_texts ps))) is' in
        let none' = rw further.2 at none in
        none_found ps further.0 further.1 none'
  ]

  -- a key without a position has none
  pub absent : (ps : List (ℕ × (String A × V))) → None ≡ group_position q (map (λ p. p.1) (stored_texts ps)) → None ≡ lookup (at_text q) (map (λ p. p.1) ps)
  absent [] is = refl
  absent (p ∷ ps) is = elim (cases_Bool (at_text q p.1.0)) [
    | inl t ↦ let is' = rw t at is in absurd (cc)
    | inr t ↦ let is' = rw t at is in rw t (absent ps (none_behind (group_position q (map (λ p. p.1) (stored_texts ps))) is'))
  ]

-- what is there
pub stored_under : {A X : Type 0} (ps : List (ℕ × (String A × List X))) (at : ℕ) (v : List X) → Some v ≡ option_map (λ p. p.1.1) (slice_get ps at)
    → v ≡ under at (map (λ p. p.1) (stored_texts ps))
stored_under [] at v there = absurd (cc)
stored_under (p ∷ ps) zero v there = let same : v ≡ p.1.1 = cc in same
stored_under (p ∷ ps) (suc at) v there = stored_under ps at v there

-- what is in order under a path
pub lookup_texts : {A V X : Type 0} (g : V → X) (q : List ℕ) (es : List (String A × V)) → option_map g (lookup (at_text q) es) ≡ lookup (bytes_eq q) (texts_by g es)
lookup_texts g q [] = refl
lookup_texts g q (e ∷ es) = elim (cases_Bool (at_text q e.0)) [
  | inl t ↦ rw t refl
  | inr t ↦ rw t (lookup_texts g q es)
]

-- what is found under a path
pub found_there : {X : Type 0} (f : List X → Option Row) (q : List ℕ) (gs : List (List ℕ × List X)) (v : List X) → Some v ≡ lookup (bytes_eq q) gs → f v ≡ found f q gs
found_there f q [] v l = absurd (cc)
found_there f q (g ∷ gs) v l = elim (cases_Bool (bytes_eq q g.0)) [
  | inl t ↦ let l' = rw t at l in let same : v ≡ g.1 = cc in rw t (ap f same)
  | inr t ↦ let l' = rw t at l in rw t (found_there f q gs v l')
]

-- nothing is found without it
pub none_there : {X : Type 0} (f : List X → Option Row) (q : List ℕ) (gs : List (List ℕ × List X)) → None ≡ lookup (bytes_eq q) gs → None ≡ found f q gs
none_there f q [] l = refl
none_there f q (g ∷ gs) l = elim (cases_Bool (bytes_eq q g.0)) [
  | inl t ↦ let l' = rw t at l in absurd (cc)
  | inr t ↦ let l' = rw t at l in rw t (none_there f q gs l')
]

-- the values of a map are the groups of its entries, in order
pub values_in_order : {S V : Type 0} (m : Ordered V S) → values_of (entries m) ≡ map (λ p. p.1) (in_order (stored_in m))
values_in_order {V = V} m = each (entries m) ∙ ap (map (λ (p : List ℕ × V). p.1)) (sym (stored_in_order m))
  where
    each : {A V : Type 0} (es : List (String A × V)) → values_of es ≡ map (λ (p : List ℕ × V). p.1) (map (λ e. (string_bytes e.0, e.1)) es)
    each [] = refl
    each (e ∷ es) = ap (λ vs. e.1 ∷ vs) (each es)

-- what a function makes of the rows of each path, one path after the other
pub each_path : {B : Type 0} (f : List Item → List B) (ps : List (List ℕ × StoredItems))
    → flat_map (λ items. f (in_order items)) (map (λ p. p.1) ps) ≡ flat_map (λ (p : List ℕ × List Item). f p.1) (map (λ p. (p.0, in_order p.1)) ps)
each_path f [] = refl
each_path f (p ∷ ps) = ap (λ ys. f (in_order p.1) ++ ys) (each_path f ps)

-- a single group has exactly one row if its path has
pub single_there : (ps : StoredPaths) (names : StoredItems) → length ps ≡ 1 → Some names ≡ slice_get (map (λ p. p.1.1) ps) 0
    → (length (in_order names) == 1) ≡ is_single_paths (paths_in_order ps)
single_there [] names one there = absurd (cc)
single_there (p ∷ []) names one there = let same : names ≡ p.1.1 = cc in ap (λ (items : StoredItems). length (in_order items) == 1) same
single_there (p ∷ q ∷ ps) names one there = absurd (omega (arith, one))
