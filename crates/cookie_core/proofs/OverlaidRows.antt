-- Which rows a cookie overlays, found by the scopes of its name.
use Rattle.std.proofs.Common.{◌≡◌, ◌∙◌, Bool, true, false, not, ◌&&◌, ◌||◌, List, [], ◌∷◌, map, inl, inr, refl, sym, ap, bytes_eq, arith}
use Rattle.std.specs.List.{All, list_any}
use Rattle.std.proofs.lemmas.Bool.{and_parts, cases_Bool, not-true, or_parts}
use Rattle.std.proofs.lemmas.Cmp.{nat_list_eq_equiv}
use Rattle.std.proofs.lemmas.List.Elements.{All-head, All-tail}
use Rattle.std.proofs.lemmas.Slice.Eq.{bytes_eq-Decides}
use Rattle.cookie_words.specs.Moments.{Moment}
use Rattle.cookie_parts.specs.Cookie.{Row, is_secure_only}
use Rattle.cookie_parts.specs.Hosts.{passes}
use Rattle.cookie_laws.specs.Rows.{Key, are_rows, differ, has_key, is_unexpired, key_at, key_of, row_of, same_key, same_key-true}
use Rattle.cookie_rows.specs.SecureKeys.{NamedScopes, ScopeValue, is_in_scope, scopes_named}
use Rattle.cookie_core.specs.Overlaid.{is_overlaid, is_overlaid_in}
use Rattle.cookie_core.specs.SecureIndexes.{IsKeyed}

module _ {T : Type 0} where
  -- whether one of two tests passes somewhere
  any_or : (f g : T → Bool) (xs : List T) → list_any (λ x. f x || g x) xs ≡ (list_any f xs || list_any g xs)
  any_or f g [] = refl
  any_or f g (x ∷ xs) = grind (arith, any_or f g xs)

  -- tests that say the same
  any_same : (f g : T → Bool) → ((x : T) → f x ≡ g x) → (xs : List T) → list_any f xs ≡ list_any g xs
  any_same f g same [] = refl
  any_same f g same (x ∷ xs) = grind (arith, same x, any_same f g same xs)

  -- a test that never passes
  any_none : (xs : List T) → list_any (λ _. false) xs ≡ false
  any_none [] = refl
  any_none (x ∷ xs) = any_none xs

and_both : (a : Bool) → (a && true && true) ≡ a
and_both true = refl
and_both false = refl

or_false : (a : Bool) → a ≡ (a || false)
or_false true = refl
or_false false = refl

and_false : (a : Bool) → (a && false) ≡ false
and_false true = refl
and_false false = refl

-- of rows with different keys
module _ (key : Key) (test : Row → Bool) where
  -- no row has a key that is none of theirs
  none_there : (rows : List Row) → list_any (same_key key) (map key_of rows) ≡ false → list_any (λ row. has_key key row && test row) rows ≡ false
  none_there [] none = refl
  none_there (row ∷ rows) none =
      let parts = or_parts (same_key key (key_of row)) (list_any (same_key key) (map key_of rows)) none in
      rw parts.0 (none_there rows parts.1)

  -- whether the row of a key passes
  pub row_passes : (rows : List Row) → differ same_key (map key_of rows) ≡ true
      → passes test (row_of key rows) ≡ list_any (λ row. has_key key row && test row) rows
  row_passes [] apart = refl
  row_passes (row ∷ rows) apart =
      let parts = and_parts (not (list_any (same_key (key_of row)) (map key_of rows))) (differ same_key (map key_of rows)) apart in
      elim (cases_Bool (has_key key row)) [
        | inl here ↦
            let others : list_any (same_key key) (map key_of rows) ≡ false =
            ap (λ k. list_any (same_key k) (map key_of rows)) (same_key-true key (key_of row) here) ∙ not-true _ parts.0 in
            let rest : list_any (λ r. has_key key r && test r) rows ≡ false = none_there rows others in
            rw (here, rest) (or_false (test row))
        | inr away ↦ rw away (row_passes rows parts.1)
      ]

-- the keys of a store's rows differ
pub keys_differ : (rows : List Row) → are_rows rows ≡ true → differ same_key (map key_of rows) ≡ true
keys_differ rows in_order = (and_parts _ _ in_order).0

module _ (keys : NamedScopes) (cookie : Row) (now : Moment) where
  -- the scope of a row that is overlaid is one of the cookie's name
  scope_found : (row : Row) → IsKeyed keys row
      → list_any (λ scope. is_overlaid_in cookie now scope row) (scopes_named cookie.raw.name keys) ≡ is_overlaid cookie now row
  scope_found row keyed = elim (cases_Bool (is_overlaid cookie now row)) [
    | inl is ↦
        let parts = and_parts _ _ is in
        let secure : is_secure_only row.raw ≡ true = (and_parts (is_unexpired now row) (is_secure_only row.raw) parts.0).1 in
        let alike : bytes_eq row.raw.name cookie.raw.name ≡ true = (and_parts _ _ parts.1).0 in
        let name : row.raw.name ≡ cookie.raw.name = (bytes_eq-Decides row.raw.name cookie.raw.name).0 alike in
        let own : bytes_eq cookie.raw.name row.raw.name ≡ true = nat_list_eq_equiv.symm cookie.raw.name row.raw.name ∙ alike in
        let one : (scope : ScopeValue) → is_overlaid_in cookie now scope row ≡ is_in_scope (key_of row) scope = λ scope. rw (is, own) (and_both (is_in_scope (key_of row) scope)) in
        any_same _ (is_in_scope (key_of row)) one (scopes_named cookie.raw.name keys)
        ∙ ap (λ n. list_any (is_in_scope (key_of row)) (scopes_named n keys)) (sym name) ∙ keyed secure ∙ sym is
    | inr is ↦
        any_same _ (λ _. false) (λ scope. rw is (and_false (has_key (key_at scope.domain scope.path cookie.raw.name) row))) (scopes_named cookie.raw.name keys)
        ∙ any_none (scopes_named cookie.raw.name keys) ∙ sym is
  ]

  -- so the rows in the scopes of the name are all that may be overlaid
  pub overlaid_in_scopes : (rows : List Row) → All (IsKeyed keys) rows
      → list_any (λ scope. list_any (is_overlaid_in cookie now scope) rows) (scopes_named cookie.raw.name keys) ≡ list_any (is_overlaid cookie now) rows
  overlaid_in_scopes [] keyed = any_none (scopes_named cookie.raw.name keys)
  overlaid_in_scopes (row ∷ rows) keyed =
      let scopes = scopes_named cookie.raw.name keys in
      any_or (λ scope. is_overlaid_in cookie now scope row) (λ scope. list_any (is_overlaid_in cookie now scope) rows) scopes
      ∙ ap (λ first. first || list_any (λ scope. list_any (is_overlaid_in cookie now scope) rows) scopes) (scope_found row (All-head (IsKeyed keys) row rows keyed))
      ∙ ap (λ rest. is_overlaid cookie now row || rest) (overlaid_in_scopes rows (All-tail (IsKeyed keys) row rows keyed))
