-- Lists in which each test passes equally many keys are permutations of each other.
use Rattle.std.proofs.Common.{◌≡◌, ◌+◌, Bool, true, cond, List, [], ◌∷◌, length, map, ◌∙◌, refl, sym, subst, ⊎_elim, arith, IsPermutation}
use Rattle.std.specs.List.{filter, list_any}
use Rattle.std.proofs.lemmas.Bool.{cases_Bool, cond-true, cond-false}
use Rattle.std.proofs.lemmas.Bool.Decides.{nat_tests}
use Rattle.std.proofs.lemmas.List.Sums.{length-filter}
use Rattle.std.proofs.lemmas.List.Sorted.{IsPermutation-refl, IsPermutation-sym, IsPermutation-trans, IsPermutation-cons, IsPermutation-middle, sum_by-IsPermutation}
use Rattle.cookie_parts.specs.Cookie.{Row}
use Rattle.cookie_laws.specs.Rows.{Key, key_of, removed, same_key, same_key-true, same_key_equiv}
use Rattle.cookie_laws.proofs.CountedKeys.{CountAlike, any-count}
use Rattle.cookie_laws.proofs.RowsOfKeys.{passing}

-- a list passes a test as often in another order
pub permuted-count : {T : Type 0} (p : T → Bool) (xs ys : List T) → IsPermutation xs ys → length (filter p ys) ≡ length (filter p xs)
permuted-count p xs ys moved =
    length-filter p ys ∙ sum_by-IsPermutation (λ x. cond (p x) 1 0) xs ys moved ∙ sym (length-filter p xs)

-- a key of a list can be moved to the front
pub key_first : (key : Key) (keys : List Key) → list_any (same_key key) keys ≡ true → IsPermutation keys (key ∷ removed (same_key key) keys)
key_first key [] some = absurd (cc)
key_first key (k ∷ ks) some =
    ⊎_elim (λ same.
    let one : key ≡ k = same_key-true key k same in
    subst (λ zs. IsPermutation (k ∷ ks) (key ∷ zs)) (sym (cond-true (same_key key k) ks (k ∷ removed (same_key key) ks) same))
    (subst (λ first. IsPermutation (k ∷ ks) (first ∷ ks)) (sym one) (IsPermutation-refl (k ∷ ks))))
    (λ other.
    let later : list_any (same_key key) ks ≡ true = grind (arith, some, other) in
    let rest = removed (same_key key) ks in
    subst (λ zs. IsPermutation (k ∷ ks) (key ∷ zs)) (sym (cond-false (same_key key k) ks (k ∷ rest) other))
    (IsPermutation-trans (k ∷ ks) (k ∷ key ∷ rest) (key ∷ k ∷ rest)
    (IsPermutation-cons k ks (key ∷ rest) (key_first key ks later))
    (IsPermutation-middle (k ∷ []) key rest)))
    (cases_Bool (same_key key k))

-- if a first key is the same in two lists, and a test passes as many in both, it does so in the rest
pub same_first-count : (test : Key → Bool) (x : Key) (xs ys : List Key) → length (filter test (x ∷ xs)) ≡ length (filter test (x ∷ ys))
    → length (filter test xs) ≡ length (filter test ys)
same_first-count test x xs ys same = grind (arith, same)

-- if each test passes as many in both, one list is a permutation of the other
permutation_from_counts : (xs ys : List Key) → ((test : Key → Bool) → length (filter test xs) ≡ length (filter test ys))
    → IsPermutation xs ys
permutation_from_counts [] [] alike = IsPermutation-refl []
permutation_from_counts [] (y ∷ ys) alike = absurd (omega (arith, alike (λ _. true)))
permutation_from_counts (x ∷ xs) ys alike =
    let here : same_key x x ≡ true = same_key_equiv.refl x in
    let counted : length (filter (same_key x) ys) ≡ length (filter (same_key x) xs) + 1 = sym (alike (same_key x)) ∙ grind (arith, here) in
    let some : list_any (same_key x) ys ≡ true = any-count (same_key x) ys ∙ grind (arith, nat_tests, counted) in
    let rest = removed (same_key x) ys in
    let moved = key_first x ys some in
    let same : (test : Key → Bool) → length (filter test xs) ≡ length (filter test rest) = λ test.
    same_first-count test x xs rest (alike test ∙ sym (permuted-count test ys (x ∷ rest) moved)) in
    IsPermutation-trans (x ∷ xs) (x ∷ rest) ys
    (IsPermutation-cons x xs rest (permutation_from_counts xs rest same))
    (IsPermutation-sym ys (x ∷ rest) moved)

-- the keys of rows pass as the rows do
keys-count : (test : Key → Bool) (rows : List Row) → length (filter test (map key_of rows)) ≡ length (passing test rows)
keys-count test [] = refl
keys-count test (row ∷ rows) = grind (arith, keys-count test rows)

-- keys that are counted as the rows are theirs
pub permutation_from_alike : (rows : List Row) (created : List Key) → CountAlike rows created → IsPermutation (map key_of rows) created
permutation_from_alike rows created alike = permutation_from_counts (map key_of rows) created (λ test. keys-count test rows ∙ alike test)

-- and back
pub alike_from_permutation : (rows : List Row) (created : List Key) → IsPermutation (map key_of rows) created → CountAlike rows created
alike_from_permutation rows created moved test = sym (keys-count test rows) ∙ sym (permuted-count test (map key_of rows) created moved)
