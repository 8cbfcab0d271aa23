-- A map of items under their names is a list of items.
use Rattle.std.proofs.Common.{◌≡◌, ℕ, Bool, true, false, List, [], ◌∷◌, ◌++◌, refl, sym, ◌∙◌, ap, subst, inl, inr, bytes_eq, Option, Some, None}
use Rattle.std.specs.Prelude.{string_bytes, String, option_map}
use Rattle.std.specs.List.{AllByRecursion}
use Rattle.std.specs.Map.{values_of, lookup, set_value, remove_entry}
use Rattle.std.proofs.lemmas.Bool.{cases_Bool}
use Rattle.std.proofs.lemmas.Slice.Eq.{bytes_eq-Decides}
use Rattle.cookie_parts.specs.Cookie.{Row, expired_row}
use Rattle.cookie_rows.specs.GroupChanges.{row_named, texts_of}
use Rattle.cookie_rows.specs.Items.{AreNamed, Item, expire_item, is_item_named, put_item, remove_item, rows_of}

-- there is no item that has no row
no_item : (x : Option Item) → option_map (λ (x : Item). x.row) x ≡ None → None ≡ x
no_item None e = refl
no_item (Some x) e = absurd (cc)

module _ {A : Type 0} where
  -- the test of a key by a name
  abbrev pub at_text : List ℕ → String A → Bool
  at_text q k = bytes_eq q (string_bytes k)

  -- the key's test is the item's
  same_test : (q : List ℕ) (e : String A × Item) → string_bytes e.0 ≡ e.1.row.raw.name → (b : Bool) → at_text q e.0 ≡ b → is_item_named q e.1 ≡ b
  same_test q e is b h = ap (bytes_eq q) (sym is) ∙ h

  -- the row under a name is the row of that name
  pub row_found : (q : List ℕ) (es : List (String A × Item)) → AreNamed es → option_map (λ (x : Item). x.row) (lookup (at_text q) es) ≡ row_named q (rows_of (values_of es))
  row_found q [] g = refl
  row_found q (e ∷ es) g = elim (cases_Bool (at_text q e.0)) [
    | inl t ↦ rw (t, same_test q e g.0 true t) refl
    | inr f ↦ rw (f, same_test q e g.0 false f) (row_found q es g.1)
  ]

  -- there is nothing under a name that no row has
  pub none_named : (q : List ℕ) (es : List (String A × Item)) → AreNamed es → row_named q (rows_of (values_of es)) ≡ None → None ≡ lookup (at_text q) es
  none_named q es g none = no_item (lookup (at_text q) es) (row_found q es g ∙ none)

  module _ (q : List ℕ) (w : Row) (n : ℕ) (is : w.raw.name ≡ q) where
    -- a row of the name was written there
    pub named_set : (v : Item) (es : List (String A × Item)) → AreNamed es → AreNamed (set_value (at_text q) es (record v { row = w }))
    named_set v [] g = tt
    named_set v (e ∷ es) g = elim (cases_Bool (at_text q e.0)) [
      | inl t ↦ rw t (sym ((bytes_eq-Decides q (string_bytes e.0)).0 t) ∙ sym is, g.1)
      | inr f ↦ rw f (g.0, named_set v es g.1)
    ]

    -- it is put in the place of the other
    pub put_set : (v : Item) (es : List (String A × Item)) → AreNamed es → Some v ≡ lookup (at_text q) es → values_of (set_value (at_text q) es (record v { row = w })) ≡ put_item w n (values_of es)
    put_set v [] g l = absurd (cc)
    put_set v (e ∷ es) g l = elim (cases_Bool (at_text q e.0)) [
      | inl t ↦ let m : is_item_named w.raw.name e.1 ≡ true = ap (λ x. is_item_named x e.1) is ∙ same_test q e g.0 true t in
          let l' = rw t at l in let same : v ≡ e.1 = cc in rw (t, m) (ap (λ (x : Item). record x { row = w } ∷ values_of es) same)
      | inr f ↦ let m : is_item_named w.raw.name e.1 ≡ false = ap (λ x. is_item_named x e.1) is ∙ same_test q e g.0 false f in
          let l' = rw f at l in rw (f, m) (ap (λ xs. e.1 ∷ xs) (put_set v es g.1 l'))
    ]

  -- an item was put last under its name
  pub named_push : (k : String A) (x : Item) (es : List (String A × Item)) → string_bytes k ≡ x.row.raw.name → AreNamed es → AreNamed (es ++ (k, x) ∷ [])
  named_push k x [] key g = (key, tt)
  named_push k x (e ∷ es) key g = (g.0, named_push k x es key g.1)

  module _ (q : List ℕ) where
    -- the row of the name expired
    pub named_expired : (v : Item) (es : List (String A × Item)) → AreNamed es → Some v ≡ lookup (at_text q) es → AreNamed (set_value (at_text q) es (record v { row = expired_row v.row }))
    named_expired v [] g l = tt
    named_expired v (e ∷ es) g l = elim (cases_Bool (at_text q e.0)) [
      | inl t ↦ let l' = rw t at l in let same : e.1 ≡ v = cc in rw t (g.0 ∙ ap (λ (x : Item). x.row.raw.name) same, g.1)
      | inr f ↦ let l' = rw f at l in rw f (g.0, named_expired v es g.1 l')
    ]

    -- as in `expire_item`
    pub expire_set : (v : Item) (es : List (String A × Item)) → AreNamed es → Some v ≡ lookup (at_text q) es → values_of (set_value (at_text q) es (record v { row = expired_row v.row })) ≡ expire_item q (values_of es)
    expire_set v [] g l = absurd (cc)
    expire_set v (e ∷ es) g l = elim (cases_Bool (at_text q e.0)) [
      | inl t ↦ let l' = rw t at l in let same : v ≡ e.1 = cc in rw (t, same_test q e g.0 true t) (ap (λ (x : Item). record x { row = expired_row x.row } ∷ values_of es) same)
      | inr f ↦ let l' = rw f at l in rw (f, same_test q e g.0 false f) (ap (λ xs. e.1 ∷ xs) (expire_set v es g.1 l'))
    ]

    -- there is none, so none is expired
    pub expire_none : (es : List (String A × Item)) → AreNamed es → None ≡ lookup (at_text q) es → values_of es ≡ expire_item q (values_of es)
    expire_none [] g l = refl
    expire_none (e ∷ es) g l = elim (cases_Bool (at_text q e.0)) [
      | inl t ↦ let l' = rw t at l in absurd (cc)
      | inr f ↦ let l' = rw f at l in rw (same_test q e g.0 false f) (ap (λ xs. e.1 ∷ xs) (expire_none es g.1 l'))
    ]

    -- the entry under the name was removed
    pub named_removed : (es : List (String A × Item)) → AreNamed es → AreNamed (remove_entry (at_text q) es)
    named_removed [] g = tt
    named_removed (e ∷ es) g = elim (cases_Bool (at_text q e.0)) [
      | inl t ↦ rw t g.1
      | inr f ↦ rw f (g.0, named_removed es g.1)
    ]

    -- as in `remove_item`
    pub remove_values : (es : List (String A × Item)) → AreNamed es → values_of (remove_entry (at_text q) es) ≡ remove_item q (values_of es)
    remove_values [] g = refl
    remove_values (e ∷ es) g = elim (cases_Bool (at_text q e.0)) [
      | inl t ↦ rw (t, same_test q e g.0 true t) refl
      | inr f ↦ rw (f, same_test q e g.0 false f) (ap (λ xs. e.1 ∷ xs) (remove_values es g.1))
    ]

-- each map key is the name of its item
abbrev AreNames : List (List ℕ × Item) → Type 0
AreNames gs = AllByRecursion (λ g. g.0 ≡ g.1.row.raw.name) gs

-- of keys so are their texts
names_of_texts : {A : Type 0} (es : List (String A × Item)) → AreNamed es → AreNames (texts_of es)
names_of_texts [] g = tt
names_of_texts (e ∷ es) g = (g.0, names_of_texts es g.1)

-- and of texts the keys
names_of_keys : {A : Type 0} (es : List (String A × Item)) → AreNames (texts_of es) → AreNamed es
names_of_keys [] g = tt
names_of_keys (e ∷ es) g = (g.0, names_of_keys es g.1)

-- entries of the same keys and items have the same names
pub named_texts : {A : Type 0} (es fs : List (String A × Item)) → texts_of fs ≡ texts_of es → AreNamed es → AreNamed fs
named_texts es fs same g = names_of_keys fs (subst AreNames (sym same) (names_of_texts es g))
