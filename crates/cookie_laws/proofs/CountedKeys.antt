-- Each test of keys passes as many rows as keys in creation order, after every change of a store.
use Rattle.std.proofs.Common.{◌≡◌, ℕ, ◌+◌, Bool, true, cond, List, [], ◌∷◌, ◌++◌, length, ◌∙◌, refl, sym, ap, ⊎_elim, arith}
use Rattle.std.specs.Prelude.{◌&&◌, nat_lt}
use Rattle.std.specs.List.{filter, list_any}
use Rattle.std.proofs.lemmas.Bool.{cases_Bool, cond_both, cond-true, cond-false}
use Rattle.std.proofs.lemmas.List.{length_push}
use Rattle.std.proofs.lemmas.List.Elements.{filter-append}
use Rattle.cookie_parts.specs.Cookie.{Row, expired_row}
use Rattle.cookie_laws.specs.Rows.{Key, key_of, has_key, in_domain, in_group, after_last, changed, replaced, removed, placed, put, add_created, same_key}
use Rattle.cookie_laws.proofs.Filtered.{changed-kept, list_any-kept}
use Rattle.cookie_laws.proofs.RowsOfKeys.{expired_row-other, expired_row-passing, has_key-passes, passing, put-other, removed-passing, removed-other}
use Rattle.cookie_laws.proofs.StoresOfKeys.{add_created-other, same_key-passes, unmade-other, unmade-passing}

-- how many items pass
module _ {T : Type 0} where
  -- one passes if and only if the count is more than zero
  pub any-count : (p : T → Bool) (xs : List T) → list_any p xs ≡ nat_lt 0 (length (filter p xs))
  any-count p [] = refl
  any-count p (x ∷ xs) = grind (arith, any-count p xs)

  -- of those that pass one test, another
  filter-both : (p q : T → Bool) (xs : List T) → filter p (filter q xs) ≡ filter (λ x. p x && q x) xs
  filter-both p q [] = refl
  filter-both p q (x ∷ xs) = grind (arith, filter-both p q xs)

  -- an item more, which passes
  after_last-count : (p test : T → Bool) (xs : List T) (y : T) → p y ≡ true
      → length (filter p (after_last test xs y)) ≡ length (filter p xs) + 1
  after_last-count p test [] y here = grind arith
  after_last-count p test (x ∷ xs) y here = grind (arith, after_last-count p test xs y here)

  -- a change keeps the length
  pub changed-count : (test : T → Bool) (change : T → T) (xs : List T) → length (changed test change xs) ≡ length xs
  changed-count test change [] = refl
  changed-count test change (x ∷ xs) = grind (arith, changed-count test change xs)

  -- the first that passes goes, if there is one
  pub removed-count : (test : T → Bool) (xs : List T) → length xs ≡ length (removed test xs) + cond (list_any test xs) 1 0
  removed-count test [] = refl
  removed-count test (x ∷ xs) = grind (arith, removed-count test xs)

-- a key that comes last is one more of those that pass, if it does
pub pushed-count : (test : Key → Bool) (created : List Key) (key : Key) → test key ≡ true
    → length (filter test (created ++ key ∷ [])) ≡ length (filter test created) + 1
pushed-count test created key here =
    ap length (filter-append test created (key ∷ []) ∙ ap (λ b. filter test created ++ cond b (key ∷ []) []) here)
    ∙ length_push (filter test created) key

-- each test passes as many of the rows as of the keys
abbrev pub CountAlike : List Row → List Key → Type 0
CountAlike rows created = (test : Key → Bool) → length (passing test rows) ≡ length (filter test created)

-- so a row passes if a key does
pub alike-any : (rows : List Row) (created : List Key) → CountAlike rows created → (test : Key → Bool)
    → list_any (λ row. test (key_of row)) rows ≡ list_any test created
alike-any rows created alike test =
    any-count (λ row. test (key_of row)) rows ∙ ap (nat_lt 0) (alike test) ∙ sym (any-count test created)

-- rows and keys of which each test passes as many
module _ (rows : List Row) (created : List Key) (alike : CountAlike rows created) where
  -- a row that is placed is one more of those that pass, if its key does
  placed-count : (test : Key → Bool) (cookie : Row) → test (key_of cookie) ≡ true
      → length (passing test (placed rows cookie)) ≡ length (passing test rows) + 1
  placed-count test cookie here =
      let key = key_of cookie in
      let pass = λ (row : Row). test (key_of row) in
      cond_both (list_any (in_group key) rows) (after_last (in_group key) rows cookie) (after_last (in_domain key) rows cookie)
      (λ zs. length (passing test zs) ≡ length (passing test rows) + 1)
      (λ _. after_last-count pass (in_group key) rows cookie here)
      (λ _. after_last-count pass (in_domain key) rows cookie here)

  -- a replacing row is not
  replaced-count : (test : Key → Bool) (cookie : Row) → test (key_of cookie) ≡ true
      → length (passing test (replaced (has_key (key_of cookie)) rows cookie)) ≡ length (passing test rows)
  replaced-count test cookie here =
      let key = key_of cookie in
      let pass = λ (row : Row). test (key_of row) in
      let same = changed-kept pass (has_key key) (λ _. cookie) (has_key-passes test key true here) (λ _ _. here) rows in
      ap length same ∙ changed-count (has_key key) (λ _. cookie) (passing test rows)

  -- a cookie is stored whose key passes
  put-count : (test : Key → Bool) (cookie : Row) → test (key_of cookie) ≡ true
      → length (passing test (put rows cookie)) ≡ length (filter test (add_created created (key_of cookie)))
  put-count test cookie here =
      let key = key_of cookie in
      let again = replaced (has_key key) rows cookie in
      let first = placed rows cookie in
      let any = alike-any rows created alike (same_key key) in
      ⊎_elim (λ old.
      ap (λ zs. length (passing test zs)) (cond-true (list_any (has_key key) rows) again first old)
      ∙ replaced-count test cookie here ∙ alike test
      ∙ ap (λ zs. length (filter test zs)) (sym (cond-true (list_any (same_key key) created) created (created ++ key ∷ []) (sym any ∙ old))))
      (λ new.
      ap (λ zs. length (passing test zs)) (cond-false (list_any (has_key key) rows) again first new)
      ∙ placed-count test cookie here ∙ ap (λ n. n + 1) (alike test) ∙ sym (pushed-count test created key here)
      ∙ ap (λ zs. length (filter test zs)) (sym (cond-false (list_any (same_key key) created) created (created ++ key ∷ []) (sym any ∙ new))))
      (cases_Bool (list_any (has_key key) rows))

  -- and whether it passes or not
  pub alike-put : (cookie : Row) → CountAlike (put rows cookie) (add_created created (key_of cookie))
  alike-put cookie test =
      ⊎_elim (λ here. put-count test cookie here)
      (λ away. ap length (put-other test rows cookie away) ∙ alike test ∙ ap length (sym (add_created-other test created (key_of cookie) away)))
      (cases_Bool (test (key_of cookie)))

  -- the row of a key is expired
  pub alike-expired_row : (key : Key) → CountAlike (changed (has_key key) expired_row rows) created
  alike-expired_row key test =
      ⊎_elim (λ here. ap length (expired_row-passing test key rows here) ∙ changed-count (has_key key) expired_row (passing test rows) ∙ alike test)
      (λ away. ap length (expired_row-other test key rows away) ∙ alike test)
      (cases_Bool (test key))

  -- only the rows remain whose keys pass a test
  pub alike-stays : (stays : Key → Bool) → CountAlike (passing stays rows) (filter stays created)
  alike-stays stays test =
      ap length (filter-both (λ row. test (key_of row)) (λ row. stays (key_of row)) rows)
      ∙ alike (λ key. test key && stays key)
      ∙ ap length (sym (filter-both test stays created))

  -- the row of a key that passes goes, and the key
  removed-alike : (test : Key → Bool) (key : Key) → test key ≡ true
      → length (passing test (removed (has_key key) rows)) ≡ length (filter test (removed (same_key key) created))
  removed-alike test key here =
      let row_goes = removed-count (has_key key) (passing test rows) in
      let key_goes = removed-count (same_key key) (filter test created) in
      let row_any = list_any-kept (λ row. test (key_of row)) (has_key key) (has_key-passes test key true here) rows in
      let key_any = list_any-kept test (same_key key) (same_key-passes test key true here) created in
      let any : list_any (has_key key) (passing test rows) ≡ list_any (same_key key) (filter test created) =
      row_any ∙ alike-any rows created alike (same_key key) ∙ sym key_any in
      let calls_related_to : length (removed (has_key key) (passing test rows)) ≡ length (removed (same_key key) (filter test created)) =
      omega (arith, row_goes, key_goes, alike test, ap (λ b. cond {A = ℕ} b 1 0) any) in
      ap length (removed-passing test key rows here) ∙ calls_related_to ∙ ap length (sym (unmade-passing test key created here))

  -- and of any
  pub alike-removed : (key : Key) → CountAlike (removed (has_key key) rows) (removed (same_key key) created)
  alike-removed key test =
      ⊎_elim (λ here. removed-alike test key here)
      (λ away. ap length (removed-other test key rows away) ∙ alike test ∙ ap length (sym (unmade-other test key created away)))
      (cases_Bool (test key))
