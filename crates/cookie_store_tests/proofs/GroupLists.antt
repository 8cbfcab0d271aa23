-- Positions in lists of groups, and tests of all items of a list.
use Rattle.std.proofs.Common.{◌≡◌, ℕ, zero, suc, ◌+◌, ◌<◌, ◌⊎◌, Bool, true, false, List, [], ◌∷◌, Some, None, length, map, refl, ◌∙◌, ap, inl, inr, bytes_eq, get_or, arith, rules, tests, nat_lt, cond}
use Rattle.std.specs.Prelude.{option_map}
use Rattle.std.specs.List.{position, position_or_len, AllByRecursion, AllWithin, list_any}
use Rattle.std.proofs.lemmas.Grind.{common_steps}
use Rattle.cookie_store.specs.SearchView.{group_position, under}

pub bool_cases : (b : Bool) → (b ≡ true) ⊎ (b ≡ false)
bool_cases true = inl refl
bool_cases false = inr refl

first_lt : (n : ℕ) → nat_lt 0 (suc n) ≡ true
first_lt n = search (rules, tests, arith)

next_lt : (m n : ℕ) → nat_lt (1 + m) (suc n) ≡ nat_lt m n
next_lt m n = grind (arith, common_steps)

one_on : (n m : ℕ) → cond (nat_lt (1 + n) (suc m)) (Some (1 + n)) None ≡ option_map suc (cond (nat_lt n m) (Some n) None)
one_on n m = elim (bool_cases (nat_lt n m)) [
  | inl e ↦ let same : 1 + n ≡ suc n = omega arith in rw (next_lt n m, e) (ap Some same)
  | inr e ↦ rw (next_lt n m, e) refl
]

module _ {X : Type 0} (text : List ℕ) where
  pub position_is : (gs : List (List ℕ × X)) → position (λ g. bytes_eq text g.0) gs ≡ group_position text gs
  position_is [] = refl
  position_is (g ∷ gs) = elim (bool_cases (bytes_eq text g.0)) [
    | inl e ↦ rw (e, first_lt (length gs)) refl
    | inr e ↦ rw e (one_on (position_or_len (λ g. bytes_eq text g.0) gs) (length gs) ∙ ap (option_map suc) (position_is gs))
  ]

  pub among_is : (gs : List (List ℕ × X)) → list_any (λ g. bytes_eq text g.0) gs ≡ list_any (bytes_eq text) (map (λ g. g.0) gs)
  among_is [] = refl
  among_is (g ∷ gs) = rw (among_is gs) refl

pub under_is : {X : Type 0} (gs : List (List ℕ × List X)) (n : ℕ) (d : List ℕ × List X) → n < length gs → under n gs ≡ (get_or gs n d).1
under_is [] n d h = absurd (omega arith)
under_is (g ∷ gs) zero d h = refl
under_is (g ∷ gs) (suc n) d h = under_is gs n d (omega arith)

pub all_from : {X : Type 0} (P : X → Type 0) (xs : List X) → AllWithin P xs 0 (length xs) → AllByRecursion P xs
all_from P [] all = tt
all_from P (x ∷ xs) all = (all 0 x (omega arith) (omega arith), all_from P xs (λ k d low lt. all (suc k) d (omega arith) (omega arith)))
