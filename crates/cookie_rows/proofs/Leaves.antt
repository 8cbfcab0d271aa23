-- Lists of which some items are left, in order.
use Rattle.std.proofs.Common.{◌≡◌, ◌≤◌, Bool, true, false, not, ◌||◌, cond, List, [], ◌∷◌, ◌++◌, length, map, refl, sym, ◌∙◌, ap, subst, arith}
use Rattle.std.specs.Cmp.{IsEquivalence}
use Rattle.std.specs.List.{AllByRecursion, filter, list_any}
use Rattle.std.proofs.lemmas.Bool.{and_from, and_parts, cond_both, not-true, or_from, or_parts}
use Rattle.cookie_laws.specs.Rows.{are_adjacent, differ}
use Rattle.cookie_rows.proofs.Adjacent.{begins, begins_congr, together-parts, together-from}

-- ys are some of xs
abbrev pub Leaves : {T : Type 0} → List T → List T → Type 0
Leaves [] ys = ys ≡ []
Leaves {T} (x ∷ xs) ys = (b : Bool) × (rest : List T) × Leaves xs rest × (ys ≡ cond b (x ∷ rest) rest)

-- all are left
pub leaves_all : {T : Type 0} (xs : List T) → Leaves xs xs
leaves_all [] = refl
leaves_all (x ∷ xs) = (true, xs, leaves_all xs, refl)

-- none is
pub leaves_none : {T : Type 0} (xs : List T) → Leaves xs []
leaves_none [] = refl
leaves_none (x ∷ xs) = (false, [], leaves_none xs, refl)

-- those are left that pass a test
pub leaves_filter : {T : Type 0} (test : T → Bool) (xs : List T) → Leaves xs (filter test xs)
leaves_filter test [] = refl
leaves_filter test (x ∷ xs) = (test x, filter test xs, leaves_filter test xs, refl)

-- what is left of each of two lists is left of both
pub leaves_append : {T : Type 0} (xs us ys vs : List T) → Leaves xs us → Leaves ys vs → Leaves (xs ++ ys) (us ++ vs)
leaves_append [] us ys vs h k = subst (λ ws. Leaves ys (ws ++ vs)) (sym h) k
leaves_append {T} (x ∷ xs) us ys vs h k = (h.0, h.1 ++ vs, leaves_append xs h.1 ys vs h.2 k, ap (λ ws. ws ++ vs) h.3 ∙ cond_append h.0 x h.1)
  where
    cond_append : (b : Bool) (x : T) (rest : List T) → cond b (x ∷ rest) rest ++ vs ≡ cond b (x ∷ (rest ++ vs)) (rest ++ vs)
    cond_append true x rest = refl
    cond_append false x rest = refl

-- a function of those that are left
pub leaves_map : {T K : Type 0} (f : T → K) (xs ys : List T) → Leaves xs ys → Leaves (map f xs) (map f ys)
leaves_map f [] ys h = ap (map f) h
leaves_map {T} f (x ∷ xs) ys h = (h.0, map f h.1, leaves_map f xs h.1 h.2, ap (map f) h.3 ∙ map_cond h.0 h.1)
  where
    map_cond : (b : Bool) (rest : List T) → map f (cond b (x ∷ rest) rest) ≡ cond b (f x ∷ map f rest) (map f rest)
    map_cond true rest = refl
    map_cond false rest = refl

module _ {T : Type 0} where
  -- what holds of each item holds of those that are left
  pub all_leaves : (P : T → Type 0) (xs ys : List T) → Leaves xs ys → AllByRecursion P xs → AllByRecursion P ys
  all_leaves P [] ys h a = subst (AllByRecursion P) (sym h) a
  all_leaves P (x ∷ xs) ys h a =
      let rest = all_leaves P xs h.1 h.2 a.1 in
      subst (AllByRecursion P) (sym h.3) (cond_both h.0 (x ∷ h.1) h.1 (AllByRecursion P) (λ _. (a.0, rest)) (λ _. rest))

  -- there are no more of them
  pub length_leaves : (xs ys : List T) → Leaves xs ys → length ys ≤ length xs
  length_leaves [] ys h = omega (arith, ap length h)
  length_leaves (x ∷ xs) ys h =
      let rest = length_leaves xs h.1 h.2 in
      subst (λ zs. length zs ≤ length (x ∷ xs)) (sym h.3) (cond_both h.0 (x ∷ h.1) h.1 (λ zs. length zs ≤ length (x ∷ xs)) (λ _. omega (arith, rest)) (λ _. omega (arith, rest)))

  -- if no item passes, none of them does
  pub none_leaves : (p : T → Bool) (xs ys : List T) → Leaves xs ys → list_any p xs ≡ false → list_any p ys ≡ false
  none_leaves p [] ys h n = ap (list_any p) h
  none_leaves p (x ∷ xs) ys h n =
      let parts = or_parts (p x) (list_any p xs) n in
      let rest = none_leaves p xs h.1 h.2 parts.1 in
      ap (list_any p) h.3 ∙ cond_both h.0 (x ∷ h.1) h.1 (λ zs. list_any p zs ≡ false) (λ _. or_from (p x) (list_any p h.1) parts.0 rest) (λ _. rest)

  -- items that differ still do
  pub differ_leaves : (alike : T → T → Bool) (xs ys : List T) → Leaves xs ys → differ alike xs ≡ true → differ alike ys ≡ true
  differ_leaves alike [] ys h d = ap (differ alike) h
  differ_leaves alike (x ∷ xs) ys h d =
      let parts = and_parts (not (list_any (alike x) xs)) (differ alike xs) d in
      let none = none_leaves (alike x) xs h.1 h.2 (not-true _ parts.0) in
      let rest = differ_leaves alike xs h.1 h.2 parts.1 in
      ap (differ alike) h.3 ∙ cond_both h.0 (x ∷ h.1) h.1 (λ zs. differ alike zs ≡ true) (λ _. and_from _ _ (ap not none) rest) (λ _. rest)

  module _ {alike : T → T → Bool} (laws : IsEquivalence alike) where
    -- if no item passes, `begins` holds
    begins_none : (p : T → Bool) (xs : List T) → list_any p xs ≡ false → begins p xs ≡ true
    begins_none p [] h = refl
    begins_none p (x ∷ xs) h = grind arith

    -- without the first of the items after x, those after it follow x as they followed it
    begins_rest : (x y : T) (ys : List T) → begins (alike x) (y ∷ ys) ≡ true → begins (alike y) ys ≡ true → begins (alike x) ys ≡ true
    begins_rest x y ys first next = grind (arith, begins_congr laws x y ys, begins_none (alike x) ys)

    -- so any of them may be left out
    begins_leaves : (x : T) (xs ys : List T) → Leaves xs ys → begins (alike x) xs ≡ true → are_adjacent alike xs ≡ true → begins (alike x) ys ≡ true
    begins_leaves x [] ys h first a = ap (begins (alike x)) h
    begins_leaves x (y ∷ xs) ys h first a =
        let parts = together-parts alike y xs a in
        ap (begins (alike x)) h.3
        ∙ cond_both h.0 (y ∷ h.1) h.1 (λ zs. begins (alike x) zs ≡ true)
        (λ _. later (alike x y) (list_any (alike x) xs) (list_any (alike x) h.1) (none_leaves (alike x) xs h.1 h.2) first)
        (λ _. begins_leaves x xs h.1 h.2 (begins_rest x y xs first parts.0) parts.1)
      where
        later : (a b c : Bool) → (b ≡ false → c ≡ false) → (a || not (a || b)) ≡ true → (a || not (a || c)) ≡ true
        later true b c none h = refl
        later false b c none h = ap not (none (not-true b h))

    -- items that are alike are still adjacent
    pub together_leaves : (xs ys : List T) → Leaves xs ys → are_adjacent alike xs ≡ true → are_adjacent alike ys ≡ true
    together_leaves [] ys h a = ap (are_adjacent alike) h
    together_leaves (x ∷ xs) ys h a =
        let parts = together-parts alike x xs a in
        let rest = together_leaves xs h.1 h.2 parts.1 in
        ap (are_adjacent alike) h.3
        ∙ cond_both h.0 (x ∷ h.1) h.1 (λ zs. are_adjacent alike zs ≡ true) (λ _. together-from alike x h.1 (begins_leaves x xs h.1 h.2 parts.0 parts.1) rest) (λ _. rest)
