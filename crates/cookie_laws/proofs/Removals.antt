-- What the removals of keys leave: the rows of all other keys and, if keys differ, no row of these.
use Rattle.std.proofs.Common.{◌≡◌, Bool, true, false, not, List, [], ◌∷◌, ◌++◌, length, map, ◌∙◌, refl, sym, ap, ⊎_elim, arith}
use Rattle.std.specs.List.{filter, list_any}
use Rattle.std.proofs.lemmas.Bool.{and_parts, cases_Bool, not-true}
use Rattle.std.proofs.lemmas.Bool.Decides.{nat_tests}
use Rattle.std.proofs.lemmas.List.{map-id}
use Rattle.cookie_parts.specs.Cookie.{Row}
use Rattle.cookie_laws.specs.Contents.{Contents, is_none_of, without}
use Rattle.cookie_laws.specs.Rows.{Key, differ, has_key, key_of, removed, row_of, same_key, same_key-true, same_key_equiv}
use Rattle.cookie_laws.specs.Runs.{Call, Remove, step, store_after}
use Rattle.cookie_laws.specs.SecureLast.{removals}
use Rattle.cookie_laws.proofs.CountedKeys.{any-count}
use Rattle.cookie_laws.proofs.DifferentKeys.{differ-removed}
use Rattle.cookie_laws.proofs.Filtered.{filter-all}
use Rattle.cookie_laws.proofs.RowsOfKeys.{removed-other, row_of-passing}
use Rattle.cookie_laws.proofs.SameCounts.{key_first, permuted-count, same_first-count}

-- the list without the first item of each key
abbrev pub all_removed : {T : Type 0} → (Key → T → Bool) → List Key → List T → List T
all_removed is_of [] xs = xs
all_removed is_of (key ∷ keys) xs = all_removed is_of keys (removed (is_of key) xs)

-- the store without the first row of each key
abbrev pub removed_from : List Key → Contents → Contents
removed_from keys store = record store { rows = all_removed has_key keys store.rows; created = all_removed same_key keys store.created }

-- calls after other calls
pub store_after-append : (calls more : List Call) (store : Contents) → store_after (calls ++ more) store ≡ store_after more (store_after calls store)
store_after-append [] more store = refl
store_after-append (call ∷ calls) more store = store_after-append calls more (step call store).store

-- removals leave it
pub store_after-removals : (keys : List Key) (store : Contents) → store_after (removals keys) store ≡ removed_from keys store
store_after-removals [] store = refl
store_after-removals (key ∷ keys) store = store_after-removals keys (step (Remove key) store).store

-- rows of other keys

-- the row of a key remains if that of another is removed
row_of-removed_other : (key other : Key) (rows : List Row) → same_key key other ≡ false → row_of key (removed (has_key other) rows) ≡ row_of key rows
row_of-removed_other key other rows away =
    let here : same_key key key ≡ true = same_key_equiv.refl key in
    sym (row_of-passing (same_key key) key (removed (has_key other) rows) here)
    ∙ ap (row_of key) (removed-other (same_key key) other rows away)
    ∙ row_of-passing (same_key key) key rows here

-- or those of others
pub row_of-all_removed : (key : Key) (keys : List Key) (rows : List Row) → list_any (same_key key) keys ≡ false
    → row_of key (all_removed has_key keys rows) ≡ row_of key rows
row_of-all_removed key [] rows apart = refl
row_of-all_removed key (k ∷ ks) rows apart =
    let away : same_key key k ≡ false = grind (arith, apart) in
    let rest : list_any (same_key key) ks ≡ false = grind (arith, apart) in
    row_of-all_removed key ks (removed (has_key k) rows) rest ∙ row_of-removed_other key k rows away

-- items of different keys

module _ {T : Type 0} (key_at : T → Key) where
  -- items of which none has a key that passes
  none-dropped : (p : Key → Bool) (xs : List T) → list_any p (map key_at xs) ≡ false → filter (λ x. not (p (key_at x))) xs ≡ xs
  none-dropped p [] none = refl
  none-dropped p (x ∷ xs) none = grind (arith, none-dropped p xs)

  -- the keys of the items that are left
  map-removed : (p : Key → Bool) (xs : List T) → map key_at (removed (λ x. p (key_at x)) xs) ≡ removed p (map key_at xs)
  map-removed p [] = refl
  map-removed p (x ∷ xs) = grind (arith, map-removed p xs)

  -- items of none of the keys, among those that are not of one more
  filter-none_of : (key : Key) (keys : List Key) (xs : List T)
      → filter (λ x. is_none_of keys (key_at x)) (filter (λ x. not (same_key key (key_at x))) xs)
      ≡ filter (λ x. is_none_of (key ∷ keys) (key_at x)) xs
  filter-none_of key keys [] = refl
  filter-none_of key keys (x ∷ xs) = grind (arith, same_key_equiv.symm key (key_at x), filter-none_of key keys xs)

  -- if keys differ, the first item of a key is its only one
  removed-filter : (key : Key) (xs : List T) → differ same_key (map key_at xs) ≡ true
      → removed (λ x. same_key key (key_at x)) xs ≡ filter (λ x. not (same_key key (key_at x))) xs
  removed-filter key [] d = refl
  removed-filter key (x ∷ xs) d =
      let own = key_at x in
      let parts = and_parts (not (list_any (same_key own) (map key_at xs))) (differ same_key (map key_at xs)) d in
      ⊎_elim (λ same.
      let one : key ≡ own = same_key-true key own same in
      let none : list_any (same_key key) (map key_at xs) ≡ false =
      ap (λ k. list_any (same_key k) (map key_at xs)) one ∙ not-true _ parts.0 in
      grind (arith, same, none-dropped (same_key key) xs none))
      (λ away. grind (arith, away, removed-filter key xs parts.1))
      (cases_Bool (same_key key own))

  -- so without the first item of each key, no item of these keys is left
  pub all_removed-filter : (keys : List Key) (xs : List T) → differ same_key (map key_at xs) ≡ true
      → all_removed (λ key x. same_key key (key_at x)) keys xs ≡ filter (λ x. is_none_of keys (key_at x)) xs
  all_removed-filter [] xs d = sym (filter-all xs)
  all_removed-filter (key ∷ keys) xs d =
      let rest = removed (λ x. same_key key (key_at x)) xs in
      let rest_differ : differ same_key (map key_at rest) ≡ true =
      ap (differ same_key) (map-removed (same_key key) xs) ∙ differ-removed same_key (same_key key) (map key_at xs) d in
      all_removed-filter keys rest rest_differ
      ∙ ap (filter (λ x. is_none_of keys (key_at x))) (removed-filter key xs d)
      ∙ filter-none_of key keys xs

-- so if the keys of rows differ, removals leave the same store as an eviction
pub removed_from-without : (keys : List Key) (store : Contents) → differ same_key (map key_of store.rows) ≡ true
    → differ same_key store.created ≡ true → removed_from keys store ≡ without keys store
removed_from-without keys store rows_differ keys_differ =
    let rows = all_removed-filter key_of keys store.rows rows_differ in
    let own_differ : differ same_key (map (λ (key : Key). key) store.created) ≡ true = ap (differ same_key) (map-id store.created) ∙ keys_differ in
    let created = all_removed-filter (λ (key : Key). key) keys store.created own_differ in
    λ i. record store { rows = rows i; created = created i }

-- counts

-- if each test passes as many in both lists, it does so after the first key of the second is removed from both
removed-alike_first : (key : Key) (xs ys : List Key) → ((test : Key → Bool) → length (filter test xs) ≡ length (filter test (key ∷ ys)))
    → (test : Key → Bool) → length (filter test (removed (same_key key) xs)) ≡ length (filter test ys)
removed-alike_first key xs ys alike test =
    let here : same_key key key ≡ true = same_key_equiv.refl key in
    let some : list_any (same_key key) xs ≡ true = any-count (same_key key) xs ∙ grind (arith, nat_tests, alike (same_key key), here) in
    same_first-count test key (removed (same_key key) xs) ys
    (permuted-count test xs (key ∷ removed (same_key key) xs) (key_first key xs some) ∙ alike test)

-- and after the keys of a prefix are
pub all_removed-prefix : (keys xs ys : List Key) → ((test : Key → Bool) → length (filter test xs) ≡ length (filter test (keys ++ ys)))
    → (test : Key → Bool) → length (filter test (all_removed same_key keys xs)) ≡ length (filter test ys)
all_removed-prefix [] xs ys alike = alike
all_removed-prefix (key ∷ keys) xs ys alike =
    all_removed-prefix keys (removed (same_key key) xs) ys (removed-alike_first key xs (keys ++ ys) alike)
