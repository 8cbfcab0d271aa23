-- A map from names to groups, changed at one name.
use Rattle.std.proofs.Common.{◌≡◌, ℕ, ◌==◌, Bool, true, false, List, [], ◌∷◌, ◌++◌, length, refl, ap, ◌∙◌, inl, inr, bytes_eq, Option, Some, None, arith}
use Rattle.std.specs.Prelude.{string_bytes, String}
use Rattle.std.specs.Map.{lookup, set_value, remove_entry}
use Rattle.std.specs.String.{string_eq}
use Rattle.indexmap.specs.IndexMap.{insert_entry}
use Rattle.std.proofs.lemmas.Bool.{cases_Bool}
use Rattle.cookie_parts.specs.Cookie.{Row}
use Rattle.cookie_laws.specs.Rows.{removed}
use Rattle.cookie_rows.specs.GroupChanges.{texts_by, found, put_at, changed_at, is_empty_at, unless_empty, lessened_at}

-- the test of a key by a name
abbrev pub at_text : {A : Type 0} → List ℕ → String A → Bool
at_text q k = bytes_eq q (string_bytes k)

-- In this module `g` is what a value of the map has in order.
module _ {A V X : Type 0} (g : V → List X) where
  -- a group that exists was changed, as in `put_at`
  pub put_set : (f : List X → List X) (q : List ℕ) (es : List (String A × V)) (v w : V) → Some v ≡ lookup (at_text q) es → g w ≡ f (g v)
      → texts_by g (set_value (at_text q) es w) ≡ put_at f q (texts_by g es)
  put_set f q [] v w l is = absurd (cc)
  put_set f q (e ∷ es) v w l is = elim (cases_Bool (at_text q e.0)) [
    | inl t ↦ let l' = rw t at l in let same : v ≡ e.1 = cc in rw t (ap (λ x. (string_bytes e.0, x) ∷ texts_by g es) (is ∙ ap (λ u. f (g u)) same))
    | inr t ↦ let l' = rw t at l in rw t (ap (λ xs. (string_bytes e.0, g e.1) ∷ xs) (put_set f q es v w l' is))
  ]

  -- as in `changed_at`
  pub changed_set : (f : List X → List X) (q : List ℕ) (es : List (String A × V)) (v w : V) → Some v ≡ lookup (at_text q) es → g w ≡ f (g v)
      → texts_by g (set_value (at_text q) es w) ≡ changed_at f q (texts_by g es)
  changed_set f q [] v w l is = absurd (cc)
  changed_set f q (e ∷ es) v w l is = elim (cases_Bool (at_text q e.0)) [
    | inl t ↦ let l' = rw t at l in let same : v ≡ e.1 = cc in rw t (ap (λ x. (string_bytes e.0, x) ∷ texts_by g es) (is ∙ ap (λ u. f (g u)) same))
    | inr t ↦ let l' = rw t at l in rw t (ap (λ xs. (string_bytes e.0, g e.1) ∷ xs) (changed_set f q es v w l' is))
  ]

  -- what stood there was written again
  pub same_set : (test : String A → Bool) (es : List (String A × V)) (v w : V) → Some v ≡ lookup test es → g w ≡ g v
      → texts_by g (set_value test es w) ≡ texts_by g es
  same_set test [] v w l is = refl
  same_set test (e ∷ es) v w l is = elim (cases_Bool (test e.0)) [
    | inl t ↦ let l' = rw t at l in let same : v ≡ e.1 = cc in rw t (ap (λ x. (string_bytes e.0, x) ∷ texts_by g es) (is ∙ ap g same))
    | inr t ↦ let l' = rw t at l in rw t (ap (λ xs. (string_bytes e.0, g e.1) ∷ xs) (same_set test es v w l' is))
  ]

  -- a group was created from nothing and inserted, as in `put_at`
  pub put_insert : (f : List X → List X) (q : List ℕ) (k : String A) (es : List (String A × V)) (w : V) → string_bytes k ≡ q → None ≡ lookup (at_text q) es → g w ≡ f []
      → texts_by g (insert_entry string_eq es k w) ≡ put_at f q (texts_by g es)
  put_insert f q k [] w is l new = ap (λ t. (t, g w) ∷ []) is ∙ ap (λ x. (q, x) ∷ []) new
  put_insert f q k (e ∷ es) w is l new =
      let same : string_eq k e.0 ≡ bytes_eq q (string_bytes e.0) = ap (λ t. bytes_eq t (string_bytes e.0)) is in
      elim (cases_Bool (at_text q e.0)) [
        | inl t ↦ let l' = rw t at l in absurd (cc)
        | inr t ↦ let l' = rw t at l in rw (same, t) (ap (λ xs. (string_bytes e.0, g e.1) ∷ xs) (put_insert f q k es w is l' new))
      ]

  -- the same in the words of a push
  pub put_push : (f : List X → List X) (q : List ℕ) (k : String A) (es : List (String A × V)) (w : V) → string_bytes k ≡ q → None ≡ lookup (at_text q) es → g w ≡ f []
      → texts_by g (es ++ (k, w) ∷ []) ≡ put_at f q (texts_by g es)
  put_push f q k [] w is l new = ap (λ t. (t, g w) ∷ []) is ∙ ap (λ x. (q, x) ∷ []) new
  put_push f q k (e ∷ es) w is l new = elim (cases_Bool (at_text q e.0)) [
    | inl t ↦ let l' = rw t at l in absurd (cc)
    | inr t ↦ let l' = rw t at l in rw t (ap (λ xs. (string_bytes e.0, g e.1) ∷ xs) (put_push f q k es w is l' new))
  ]

  -- there is no group, so nothing is changed
  pub changed_none : (f : List X → List X) (q : List ℕ) (es : List (String A × V)) → None ≡ lookup (at_text q) es → texts_by g es ≡ changed_at f q (texts_by g es)
  changed_none f q [] l = refl
  changed_none f q (e ∷ es) l = elim (cases_Bool (at_text q e.0)) [
    | inl t ↦ let l' = rw t at l in absurd (cc)
    | inr t ↦ let l' = rw t at l in rw t (ap (λ xs. (string_bytes e.0, g e.1) ∷ xs) (changed_none f q es l'))
  ]

  -- what is found in a group that exists
  pub found_some : (f : List X → Option Row) (q : List ℕ) (es : List (String A × V)) (v : V) → Some v ≡ lookup (at_text q) es → f (g v) ≡ found f q (texts_by g es)
  found_some f q [] v l = absurd (cc)
  found_some f q (e ∷ es) v l = elim (cases_Bool (at_text q e.0)) [
    | inl t ↦ let l' = rw t at l in let same : v ≡ e.1 = cc in rw t (ap (λ u. f (g u)) same)
    | inr t ↦ let l' = rw t at l in rw t (found_some f q es v l')
  ]

  -- nothing is found without a group
  pub found_none : (f : List X → Option Row) (q : List ℕ) (es : List (String A × V)) → None ≡ lookup (at_text q) es → None ≡ found f q (texts_by g es)
  found_none f q [] l = refl
  found_none f q (e ∷ es) l = elim (cases_Bool (at_text q e.0)) [
    | inl t ↦ let l' = rw t at l in absurd (cc)
    | inr t ↦ let l' = rw t at l in rw t (found_none f q es l')
  ]

  -- what was written is what the map has
  pub empty_set : (q : List ℕ) (es : List (String A × V)) (v w : V) → Some v ≡ lookup (at_text q) es → (length (g w) == 0) ≡ is_empty_at q (texts_by g (set_value (at_text q) es w))
  empty_set q [] v w l = absurd (cc)
  empty_set q (e ∷ es) v w l = elim (cases_Bool (at_text q e.0)) [
    | inl t ↦ rw (t, t) refl
    | inr t ↦ let l' = rw t at l in rw (t, t) (empty_set q es v w l')
  ]

  -- without a group, no group is empty
  pub empty_none : (q : List ℕ) (es : List (String A × V)) → None ≡ lookup (at_text q) es → false ≡ is_empty_at q (texts_by g es)
  empty_none q [] l = refl
  empty_none q (e ∷ es) l = elim (cases_Bool (at_text q e.0)) [
    | inl t ↦ let l' = rw t at l in absurd (cc)
    | inr t ↦ let l' = rw t at l in rw t (empty_none q es l')
  ]

  -- an entry that was removed
  pub texts_removed : (q : List ℕ) (es : List (String A × V)) → texts_by g (remove_entry (at_text q) es) ≡ removed (λ g. bytes_eq q g.0) (texts_by g es)
  texts_removed q [] = refl
  texts_removed q (e ∷ es) = elim (cases_Bool (at_text q e.0)) [
    | inl t ↦ rw t refl
    | inr t ↦ rw t (ap (λ xs. (string_bytes e.0, g e.1) ∷ xs) (texts_removed q es))
  ]

-- a changed group is dropped if it is empty

-- a group with something in it is kept
pub some_kept : {X : Type 0} (t : List ℕ) (v : List X) (gs : List (List ℕ × List X)) → (length v == 0) ≡ false → (t, v) ∷ gs ≡ unless_empty t v gs
some_kept t [] gs h = absurd (cc)
some_kept t (x ∷ xs) gs h = refl

-- one with nothing in it is not
pub none_kept : {X : Type 0} (t : List ℕ) (v : List X) (gs : List (List ℕ × List X)) → (length v == 0) ≡ true → gs ≡ unless_empty t v gs
none_kept t [] gs h = refl
none_kept t (x ∷ xs) gs h = absurd (grind arith)

module _ {X : Type 0} (f : List X → List X) (q : List ℕ) where
  -- something is left in the group that was changed
  pub lessened_some : (gs : List (List ℕ × List X)) → is_empty_at q (changed_at f q gs) ≡ false → changed_at f q gs ≡ lessened_at f q gs
  lessened_some [] h = refl
  lessened_some (g ∷ gs) h = elim (cases_Bool (bytes_eq q g.0)) [
    | inl t ↦ let h' = rw (t, t) at h in rw t (some_kept g.0 (f g.1) gs h')
    | inr t ↦ let h' = rw (t, t) at h in rw t (ap (λ xs. g ∷ xs) (lessened_some gs h'))
  ]

  -- nothing is left in it, and it was removed
  pub lessened_none : (gs : List (List ℕ × List X)) → is_empty_at q (changed_at f q gs) ≡ true → removed (λ g. bytes_eq q g.0) (changed_at f q gs) ≡ lessened_at f q gs
  lessened_none [] h = refl
  lessened_none (g ∷ gs) h = elim (cases_Bool (bytes_eq q g.0)) [
    | inl t ↦ let h' = rw (t, t) at h in rw (t, t) (none_kept g.0 (f g.1) gs h')
    | inr t ↦ let h' = rw (t, t) at h in rw (t, t) (ap (λ xs. g ∷ xs) (lessened_none gs h'))
  ]
