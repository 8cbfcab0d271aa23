-- The entry of a key.
use Rattle.std.proofs.Common.{◌≡◌, ℕ, Bool, true, false, cond, List, [], ◌∷◌, ◌++◌, get_or, position, slice_get, None, Some, option_map, refl, sym, ap, ◌∙◌, String, string_bytes}
use Rattle.std.specs.Cmp.Lexicographic.{nat_list_eq_equiv}
use Rattle.std.specs.Map.{keys_of, lookup_entry, remove_entry, set_value, values_of, IsKeyTest}
use Rattle.std.specs.String.{string_eq}
use Rattle.std.specs.declared.alloc.Global.{Global}
use Rattle.std.proofs.lemmas.List.Quantifiers.{position-Some}
use Rattle.std.proofs.lemmas.Map.{NonePasses}
use Rattle.std.proofs.lemmas.Option.{get_or_from_slice_get, same_Some, slice_get-map}
use Rattle.std.proofs.lemmas.Slice.Eq.{bytes_eq-Decides}
use Rattle.indexmap.proofs.MapLemmas.{Found-position}
use Rattle.ordered_map.specs.Entries.{is_text}
use Rattle.ordered_map.proofs.FlatMaps.{at_within}

-- keys that are the same string are equal, and others are not
pub is_key_test : (text : List ℕ) → IsKeyTest string_eq (is_text text)
is_key_test text x y h = nat_list_eq_equiv.congr text (string_bytes x) (string_bytes y) h

-- a key that passes the test is the string
pub same_text : (text : List ℕ) (key : String Global) → is_text text key ≡ true → text ≡ string_bytes key
same_text text key passes = (bytes_eq-Decides text (string_bytes key)).0 passes

-- either result of a test
pub by_test : {P : Type 0} (b : Bool) → (b ≡ true → P) → (b ≡ false → P) → P
by_test true p q = p refl
by_test false p q = q refl

module _ {K Y : Type 0} (test : K → Bool) where
  pub lookup_entry_none : (es : List (K × Y)) → NonePasses test es → lookup_entry test es ≡ None
  lookup_entry_none [] h = refl
  lookup_entry_none (e ∷ es) h = ap (λ b. cond b (Some e) (lookup_entry test es)) h.0 ∙ lookup_entry_none es h.1

  pub remove_none : (es : List (K × Y)) → NonePasses test es → remove_entry test es ≡ es
  remove_none [] h = refl
  remove_none (e ∷ es) h = ap (λ b. cond b es (e ∷ remove_entry test es)) h.0 ∙ ap (λ l. e ∷ l) (remove_none es h.1)

  module _ (e : K × Y) (zs : List (K × Y)) (y : test e.0 ≡ true) where
    pub lookup_entry_middle : (ys : List (K × Y)) → NonePasses test ys → lookup_entry test (ys ++ e ∷ zs) ≡ Some e
    lookup_entry_middle [] h = ap (λ b. cond b (Some e) (lookup_entry test zs)) y
    lookup_entry_middle (x ∷ ys) h = ap (λ b. cond b (Some x) (lookup_entry test (ys ++ e ∷ zs))) h.0 ∙ lookup_entry_middle ys h.1

    pub remove_middle : (ys : List (K × Y)) → NonePasses test ys → remove_entry test (ys ++ e ∷ zs) ≡ ys ++ zs
    remove_middle [] h = ap (λ b. cond b zs (e ∷ remove_entry test zs)) y
    remove_middle (x ∷ ys) h = ap (λ b. cond b (ys ++ e ∷ zs) (x ∷ remove_entry test (ys ++ e ∷ zs))) h.0 ∙ ap (λ l. x ∷ l) (remove_middle ys h.1)

    pub set_middle : (w : Y) (ys : List (K × Y)) → NonePasses test ys → set_value test (ys ++ e ∷ zs) w ≡ ys ++ (e.0, w) ∷ zs
    set_middle w [] h = ap (λ b. cond b ((e.0, w) ∷ zs) (e ∷ set_value test zs w)) y
    set_middle w (x ∷ ys) h = ap (λ b. cond b ((x.0, w) ∷ (ys ++ e ∷ zs)) (x ∷ set_value test (ys ++ e ∷ zs) w)) h.0 ∙ ap (λ l. x ∷ l) (set_middle w ys h.1)

-- the entry at the position of a key
module _ {K Y : Type 0} (test : K → Bool) (es : List (K × Y)) (at : ℕ) (v : Y) where
  pub record EntryAt : Type 0 where
    pub key : K
    pub here : slice_get es at ≡ Some (key, v)
    pub passes : test key ≡ true

  pub entry_at : Some at ≡ position test (keys_of es) → Some v ≡ slice_get (values_of es) at → EntryAt
  entry_at index value =
      let e = at_within es at (Found-position test es at (sym index)).within in
      let key : get_or (keys_of es) at e.0.0 ≡ e.0.0 = get_or_from_slice_get (keys_of es) at e.0.0 e.0.0 (slice_get-map (λ e. e.0) es at ∙ ap (option_map (λ e. e.0)) e.1) in
      let same : e.0.1 ≡ v = same_Some e.0.1 v (sym (value ∙ slice_get-map (λ e. e.1) es at ∙ ap (option_map (λ e. e.1)) e.1)) in
      record {
        key = e.0.0;
        here = e.1 ∙ ap (λ w. Some (e.0.0, w)) same;
        passes = ap test (sym key) ∙ (position-Some test (keys_of es) at e.0.0 (sym index)).1;
      }
