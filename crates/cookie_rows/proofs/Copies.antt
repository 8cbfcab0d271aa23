-- A map whose entries are copied one after the other into a map of another hasher.
use Rattle.std.proofs.Common.{◌≡◌, false, List, [], ◌∷◌, ◌++◌, map, refl, sym, ◌∙◌, ap, ap₂, subst, bytes_eq, append_assoc, append-nil, arith, None}
use Rattle.std.specs.Prelude.{◌≢◌, string_bytes, String}
use Rattle.std.specs.String.{string_eq}
use Rattle.std.specs.List.{AllByRecursion, IsDistinct}
use Rattle.std.specs.Map.{keys_of, lookup, values_of}
use Rattle.std.proofs.lemmas.Bool.Decides.{nat_tests}
use Rattle.std.proofs.lemmas.Map.Keys.{IsDistinct-head, IsDistinct-tail}
use Rattle.std.proofs.lemmas.Slice.Eq.{bytes_eq-Decides}
use Rattle.cookie_rows.specs.Copies.{AreCopies}
use Rattle.cookie_rows.specs.GroupChanges.{texts_by, texts_of}
use Rattle.cookie_rows.proofs.Maps.{at_text}

module _ {A V : Type 0} (is_copy : V → V → Type 0) where
  -- the first entries were copied, and these are left
  abbrev pub CopiedSoFar : List (String A × V) → List (String A × V) → List (String A × V) → Type 0
  CopiedSoFar all left copies = (done : List (String A × V)) × (done ++ left ≡ all) × AreCopies is_copy done copies

  -- at first no entry was copied
  pub none_copied : (all copies : List (String A × V)) → copies ≡ [] → CopiedSoFar all all copies
  none_copied all copies empty = ([], refl, empty)

  -- what holds of each key holds of one of them
  one_key : (P : String A → Type 0) (es fs : List (String A × V)) (e : String A × V) → AllByRecursion P (keys_of (es ++ e ∷ fs)) → P e.0
  one_key P [] fs e a = a.0
  one_key P (x ∷ es) fs e a = one_key P es fs e a.1

  -- the key of the next entry is none of the copied ones
  absent : (done rest copies : List (String A × V)) (e : String A × V) (k : String A) → IsDistinct string_eq (keys_of (done ++ e ∷ rest)) → AreCopies is_copy done copies
      → string_bytes k ≡ string_bytes e.0 → lookup (at_text (string_bytes k)) copies ≡ None
  absent [] rest copies e k d c key = ap (lookup (at_text (string_bytes k))) c
  absent (x ∷ done) rest copies e k d c key =
      let other : bytes_eq (string_bytes x.0) (string_bytes e.0) ≡ false =
      one_key (λ y. string_eq x.0 y ≡ false) done rest e (IsDistinct-head string_eq x.0 (keys_of (done ++ e ∷ rest)) d) in
      let flip : bytes_eq (string_bytes e.0) (string_bytes x.0) ≡ false =
      grind (arith, nat_tests, other, bytes_eq-Decides (string_bytes x.0) (string_bytes e.0), bytes_eq-Decides (string_bytes e.0) (string_bytes x.0)) in
      let test : bytes_eq (string_bytes k) (string_bytes c.0) ≡ false = ap₂ bytes_eq key c.3 ∙ flip in
      ap (lookup (at_text (string_bytes k))) c.6 ∙ rw test (absent done rest c.2 e k (IsDistinct-tail string_eq x.0 (keys_of (done ++ e ∷ rest)) d) c.5 key)

  -- one entry more was copied
  one_more : (done copies : List (String A × V)) (e : String A × V) (k : String A) (v : V) → AreCopies is_copy done copies → string_bytes k ≡ string_bytes e.0 → is_copy e.1 v
      → AreCopies is_copy (done ++ e ∷ []) (copies ++ (k, v) ∷ [])
  one_more [] copies e k v c key value = (k, v, [], key, value, refl, ap (λ fs. fs ++ (k, v) ∷ []) c)
  one_more (x ∷ done) copies e k v c key value =
      (c.0, c.1, c.2 ++ (k, v) ∷ [], c.3, c.4, one_more done c.2 e k v c.5 key value, ap (λ fs. fs ++ (k, v) ∷ []) c.6)

  module _ (es all : List (String A × V)) (same : all ≡ es) (left rest copies : List (String A × V)) (e : String A × V) (so_far : CopiedSoFar all left copies)
      (first : left ≡ e ∷ rest) where
    -- the next entry's key is new
    pub new_key : (k : String A) → IsDistinct string_eq (keys_of es) → string_bytes k ≡ string_bytes e.0 → lookup (at_text (string_bytes k)) copies ≡ None
    new_key k distinct key =
        let whole = ap (λ fs. so_far.0 ++ fs) (sym first) ∙ so_far.1 ∙ same in
        absent so_far.0 rest copies e k (subst (λ fs. IsDistinct string_eq (keys_of fs)) (sym whole) distinct) so_far.2 key

    -- it was pushed last
    pub pushed_one : (more : List (String A × V)) (k : String A) (v : V) → more ≡ copies ++ (k, v) ∷ [] → string_bytes k ≡ string_bytes e.0 → is_copy e.1 v → CopiedSoFar all rest more
    pushed_one more k v came key value = (
      so_far.0 ++ e ∷ [],
      append_assoc so_far.0 (e ∷ []) rest ∙ ap (λ fs. so_far.0 ++ fs) (sym first) ∙ so_far.1,
      subst (AreCopies is_copy (so_far.0 ++ e ∷ [])) (sym came) (one_more so_far.0 copies e k v so_far.2 key value),
    )

    -- there are some
    pub some_left : es ≢ []
    some_left none = not_empty so_far.0 (ap (λ fs. so_far.0 ++ fs) (sym first) ∙ so_far.1 ∙ same ∙ none)
      where
        not_empty : (xs : List (String A × V)) → xs ++ e ∷ rest ≢ []
        not_empty [] none = absurd (cc)
        not_empty (x ∷ xs) none = absurd (cc)

  -- none is left
  pub copied_all : (es all left copies : List (String A × V)) → all ≡ es → CopiedSoFar all left copies → left ≡ [] → AreCopies is_copy es copies
  copied_all es all left copies same so_far none =
      subst (λ fs. AreCopies is_copy fs copies) (sym (append-nil so_far.0) ∙ ap (λ fs. so_far.0 ++ fs) (sym none) ∙ so_far.1 ∙ same) so_far.2

-- copies have the same contents in order
pub copied_texts : {A V X : Type 0} (g : V → X) (es copies : List (String A × V)) → AreCopies (λ v w. g w ≡ g v) es copies → texts_by g copies ≡ texts_by g es
copied_texts g [] copies c = ap (texts_by g) c
copied_texts g (e ∷ es) copies c = ap (texts_by g) c.6 ∙ (λ i. (c.3 i, c.4 i) ∷ copied_texts g es c.2 c.5 i)

-- the same texts have the same values
pub same_values : {A X : Type 0} (es fs : List (String A × X)) → texts_of fs ≡ texts_of es → values_of fs ≡ values_of es
same_values es fs same = all_values fs ∙ ap (map (λ t. t.1)) same ∙ sym (all_values es)
  where
    all_values : {A X : Type 0} (es : List (String A × X)) → values_of es ≡ map (λ t. t.1) (texts_of es)
    all_values [] = refl
    all_values (e ∷ es) = ap (λ vs. e.1 ∷ vs) (all_values es)
