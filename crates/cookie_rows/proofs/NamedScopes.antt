-- The scopes of a name in a map, and the keys after one is added.
use Rattle.std.proofs.Common.{◌≡◌, ◌∙◌, ℕ, Bool, true, false, ◌&&◌, ◌||◌, List, [], ◌∷◌, ◌++◌, Some, None, inl, inr, refl, sym, ap, bytes_eq}
use Rattle.std.specs.Prelude.{String}
use Rattle.std.specs.List.{list_any}
use Rattle.std.specs.Map.{lookup}
use Rattle.std.proofs.lemmas.Bool.{cases_Bool}
use Rattle.std.proofs.lemmas.Cmp.{nat_list_eq_equiv}
use Rattle.std.proofs.lemmas.List.Folds.{list_any-append}
use Rattle.std.proofs.lemmas.Slice.Eq.{bytes_eq-Decides}
use Rattle.cookie_parts.specs.Cookie.{Row}
use Rattle.cookie_laws.specs.Rows.{Key, key_of, same_key}
use Rattle.cookie_rows.specs.GroupChanges.{put_at, texts_of}
use Rattle.cookie_rows.specs.SecureKeys.{NamedScopes, ScopeValue, is_in_scope, lists_key, scope_of, scopes_named}
use Rattle.cookie_rows.proofs.Maps.{at_text}

module _ {A : Type 0} where
  -- the scopes of a name that the map has
  pub named_some : (q : List ℕ) (es : List (String A × List ScopeValue)) (v : List ScopeValue) → Some v ≡ lookup (at_text q) es → v ≡ scopes_named q (texts_of es)
  named_some q [] v l = absurd (cc)
  named_some q (e ∷ es) v l = elim (cases_Bool (at_text q e.0)) [
    | inl t ↦ let l' = rw t at l in let same : v ≡ e.1 = cc in rw t same
    | inr t ↦ let l' = rw t at l in rw t (named_some q es v l')
  ]

  -- a name that it does not have has none
  pub named_none : (q : List ℕ) (es : List (String A × List ScopeValue)) → None ≡ lookup (at_text q) es → [] ≡ scopes_named q (texts_of es)
  named_none q [] l = refl
  named_none q (e ∷ es) l = elim (cases_Bool (at_text q e.0)) [
    | inl t ↦ let l' = rw t at l in absurd (cc)
    | inr t ↦ let l' = rw t at l in rw t (named_none q es l')
  ]

-- the scopes of a name were changed
module _ (f : List ScopeValue → List ScopeValue) (name : List ℕ) where
  named_put : (gs : NamedScopes) → scopes_named name (put_at f name gs) ≡ f (scopes_named name gs)
  named_put [] = rw (nat_list_eq_equiv.refl name) refl
  named_put (g ∷ gs) = elim (cases_Bool (bytes_eq name g.0)) [
    | inl t ↦ rw (t, t) refl
    | inr t ↦ rw (t, t) (named_put gs)
  ]

  -- those of another name are the same
  named_other : (other : List ℕ) → bytes_eq other name ≡ false → (gs : NamedScopes) → scopes_named other (put_at f name gs) ≡ scopes_named other gs
  named_other other away [] = rw away refl
  named_other other away (g ∷ gs) = elim (cases_Bool (bytes_eq name g.0)) [
    | inl t ↦
        let far : bytes_eq other g.0 ≡ false = ap (bytes_eq other) (sym ((bytes_eq-Decides name g.0).0 t)) ∙ away in
        rw (t, far) refl
    | inr t ↦ elim (cases_Bool (bytes_eq other g.0)) [
      | inl o ↦ rw (t, o) refl
      | inr o ↦ rw (t, o) (named_other other away gs)
    ]
  ]

last_first : (a b : Bool) → (a || (b || false)) ≡ (b && true || a)
last_first true true = refl
last_first true false = refl
last_first false true = refl
last_first false false = refl

not_here : (a b : Bool) → a ≡ (b && false || a)
not_here a true = refl
not_here a false = refl

-- with the key of a cookie, those before and this one are keys
pub added_key : (cookie : Row) (keys : NamedScopes) (key : Key)
    → lists_key (put_at (λ named. named ++ scope_of cookie ∷ []) cookie.raw.name keys) key ≡ (same_key (key_of cookie) key || lists_key keys key)
added_key cookie keys key =
    let name = cookie.raw.name in
    let f = λ (named : List ScopeValue). named ++ scope_of cookie ∷ [] in
    let named = scopes_named key.name keys in
    elim (cases_Bool (bytes_eq name key.name)) [
      | inl t ↦
          let put : scopes_named key.name (put_at f name keys) ≡ named ++ scope_of cookie ∷ [] =
          ap (λ n. scopes_named key.name (put_at f n keys)) ((bytes_eq-Decides name key.name).0 t) ∙ named_put f key.name keys in
          ap (list_any (is_in_scope key)) put ∙ list_any-append (is_in_scope key) named (scope_of cookie ∷ [])
          ∙ rw t (last_first (list_any (is_in_scope key) named) (is_in_scope key (scope_of cookie)))
      | inr t ↦
          let away : bytes_eq key.name name ≡ false = nat_list_eq_equiv.symm key.name name ∙ t in
          ap (list_any (is_in_scope key)) (named_other f name key.name away keys)
          ∙ rw t (not_here (list_any (is_in_scope key) named) (is_in_scope key (scope_of cookie)))
    ]
