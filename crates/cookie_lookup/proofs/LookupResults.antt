-- What one lookup finds, and what it adds.
use Rattle.std.proofs.Common.{◌≡◌, ℕ, zero, suc, ◌+◌, ◌<◌, ◌≤◌, Bool, true, false, List, [], ◌∷◌, ◌++◌, length, drop, Option, Some, None, refl, sym, ◌∙◌, ap, subst, inl, inr, bytes_eq, arith, append_assoc, append-nil}
use Rattle.std.specs.Prelude.{◌≢◌, option_map, slice_get}
use Rattle.std.specs.List.{flat_map}
use Rattle.std.proofs.lemmas.Option.{slice_get_within, get_or_from_slice_get, slice_get_cases}
use Rattle.std.proofs.lemmas.List.{drop_more}
use Rattle.std.proofs.lemmas.Grind.{flat_map-append}
use Rattle.cookie_parts.specs.Cookie.{Row}
use Rattle.cookie_lookup.specs.Groups.{DomainGroups}
use Rattle.cookie_lookup.specs.SearchView.{RowPosition, group_position, under, row_positions, at_path, at_domain}
use Rattle.cookie_lookup.proofs.CandidateCuts.{bool_cases}

-- the rows of a group

pub drop_at : {X : Type 0} (rows : List X) (n : ℕ) (row : X) → Some row ≡ slice_get rows n → drop n rows ≡ row ∷ drop (n + 1) rows
drop_at rows n row e = drop_more rows n row (slice_get_within rows n row (sym e)) ∙ ap (λ r. r ∷ drop (n + 1) rows) (get_or_from_slice_get rows n row row (sym e))

drop_end : {X : Type 0} (rows : List X) (n : ℕ) → None ≡ slice_get rows n → drop n rows ≡ []
drop_end rows n e = elim (slice_get_cases rows n).1 [
  | inl x ↦ let clash : None ≡ Some x.0 = e ∙ x.2 in absurd (cc)
  | inr x ↦ past rows n x.0
]
  where
    past : {X : Type 0} (rows : List X) (n : ℕ) → length rows ≤ n → drop n rows ≡ []
    past [] zero h = refl
    past [] (suc n) h = refl
    past (r ∷ rows) zero h = absurd (omega arith)
    past (r ∷ rows) (suc n) h = past rows n (omega arith)

module _ (test : Row → Bool) (d p n : ℕ) (rows : List Row) (row : Row) (here : Some row ≡ slice_get rows n) (positions new all : List RowPosition)
    (so_far : positions ++ row_positions test d p n (drop n rows) ≡ all) where
  pub row_pushed : test row ≡ true → new ≡ positions ++ (d, p, n) ∷ [] → new ++ row_positions test d p (n + 1) (drop (n + 1) rows) ≡ all
  row_pushed t e =
      rw (e, append_assoc positions ((d, p, n) ∷ []) (row_positions test d p (n + 1) (drop (n + 1) rows)))
      (ap (λ s. positions ++ s) (sym (ap (row_positions test d p n) (drop_at rows n row here) ∙ rw t refl)) ∙ so_far)

  pub row_passed : test row ≡ false → new ≡ positions → new ++ row_positions test d p (n + 1) (drop (n + 1) rows) ≡ all
  row_passed t e =
      rw e (ap (λ s. positions ++ s) (sym (ap (row_positions test d p n) (drop_at rows n row here) ∙ rw t refl)) ∙ so_far)

pub rows_done : (test : Row → Bool) (d p n : ℕ) (rows : List Row) (positions all : List RowPosition) → None ≡ slice_get rows n → positions ++ row_positions test d p n (drop n rows) ≡ all → positions ≡ all
rows_done test d p n rows positions all e h = sym (append-nil positions) ∙ ap (λ r. positions ++ row_positions test d p n r) (sym (drop_end rows n e)) ∙ h

-- if a row passes there is a position
pub some_pass : (test : Row → Bool) (d p k : ℕ) (rows : List Row) (n : ℕ) (row : Row) → Some row ≡ slice_get rows n → test row ≡ true → row_positions test d p k rows ≢ []
some_pass test d p k [] n row here t none = let w = slice_get_within [] n row (sym here) in absurd (omega (arith, w))
some_pass test d p k (r ∷ rows) zero row here t none = let same : row ≡ r = cc in let t' : test r ≡ true = subst (λ x. test x ≡ true) same t in let none' = rw t' at none in absurd (cc)
some_pass test d p k (r ∷ rows) (suc n) row here t none = elim (bool_cases (test r)) [
  | inl e ↦ let none' = rw e at none in absurd (cc)
  | inr e ↦ let none' = rw e at none in some_pass test d p (k + 1) rows n row here t none'
]

-- the group of a name

pub place_below : {X : Type 0} (text : List ℕ) (gs : List (List ℕ × X)) (n : ℕ) → Some n ≡ group_position text gs → n < length gs
place_below text [] n h = absurd (cc)
place_below text (g ∷ gs) n h = elim (bool_cases (bytes_eq text g.0)) [
  | inl e ↦ let h' = rw e at h in let z : n ≡ 0 = cc in omega (arith, z)
  | inr e ↦ let h' = rw e at h in later (group_position text gs) n h' (λ m k. place_below text gs m k)
]
  where
    later : {b : ℕ} (o : Option ℕ) (n : ℕ) → Some n ≡ option_map suc o → ((m : ℕ) → Some m ≡ o → m < b) → n < suc b
    later None n h k = absurd (cc)
    later (Some m) n h k = let e : n ≡ suc m = cc in omega (arith, e, k m refl)

pub domain_some : (test : Row → Bool) (groups : DomainGroups) (texts : List (List ℕ)) (text : List ℕ) (d : ℕ) → Some d ≡ group_position text groups → at_domain test groups texts text ≡ flat_map (at_path test d (under d groups)) texts
domain_some test groups texts text d e = rw (at_domain, ← e) refl

-- if one of several lookups finds something, they find something together
pub some_given : {X A : Type 0} (f : X → List A) (prefix : List X) (x : X) (more : List X) → f x ≢ [] → flat_map f (prefix ++ x ∷ more) ≢ []
some_given f prefix x more some none =
    let parts : flat_map f prefix ++ (f x ++ flat_map f more) ≡ [] = sym (flat_map-append f prefix (x ∷ more)) ∙ none in
    some (nothing_left (f x) (flat_map f more) (nothing_right (flat_map f prefix) (f x ++ flat_map f more) parts))
  where
    nothing_right : {A : Type 0} (xs ys : List A) → xs ++ ys ≡ [] → ys ≡ []
    nothing_right [] ys e = e
    nothing_right (x ∷ xs) ys e = absurd (cc)

    nothing_left : {A : Type 0} (xs ys : List A) → xs ++ ys ≡ [] → xs ≡ []
    nothing_left [] ys e = refl
    nothing_left (x ∷ xs) ys e = absurd (cc)
