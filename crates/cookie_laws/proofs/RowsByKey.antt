-- The row of a key after a cookie is stored, a row is expired, or rows are removed.
use Rattle.std.proofs.Common.{◌≡◌, Bool, true, false, not, List, [], ◌∷◌, Some, None, ⊎_elim, ◌∙◌, refl, sym, ap, arith}
use Rattle.std.specs.List.{find, list_any}
use Rattle.std.proofs.lemmas.Bool.{both_ways, cases_Bool, cond_both, not-true}
use Rattle.cookie_parts.specs.Cookie.{Row, expired_row}
use Rattle.cookie_laws.specs.Contents.{Contents, is_none_of, without}
use Rattle.cookie_laws.specs.Rows.{Key, changed, key_of, has_key, in_domain, in_group, row_of, after_last, replaced, placed, put, same_key, same_key-true, same_key_equiv}
use Rattle.cookie_laws.proofs.Filtered.{none-apart}
use Rattle.cookie_laws.proofs.RowsOfKeys.{expired_row-other, put-other, row_of-passing}

-- y in the place of the first item that passes is the first one, if it passes too
find-replaced : {T : Type 0} (test : T → Bool) (xs : List T) (y : T) → list_any test xs ≡ true → test y ≡ true → find test (replaced test xs y) ≡ Some y
find-replaced test [] y some here = grind arith
find-replaced test (x ∷ xs) y some here = grind (arith, find-replaced test xs y)

-- y among items that do not pass is the first one that does
find-after_last : {T : Type 0} (p test : T → Bool) (xs : List T) (y : T) → list_any p xs ≡ false → p y ≡ true → find p (after_last test xs y) ≡ Some y
find-after_last p test [] y none here = grind arith
find-after_last p test (x ∷ xs) y none here = grind (arith, find-after_last p test xs y)

-- a new row is the row of its key
row_of-placed : (rows : List Row) (cookie : Row) → list_any (has_key (key_of cookie)) rows ≡ false → row_of (key_of cookie) (placed rows cookie) ≡ Some cookie
row_of-placed rows cookie new =
    let key = key_of cookie in
    let here : has_key key cookie ≡ true = same_key_equiv.refl key in
    cond_both (list_any (in_group key) rows) (after_last (in_group key) rows cookie) (after_last (in_domain key) rows cookie)
    (λ zs. row_of key zs ≡ Some cookie)
    (λ _. find-after_last (has_key key) (in_group key) rows cookie new here)
    (λ _. find-after_last (has_key key) (in_domain key) rows cookie new here)

-- a cookie that is stored is the row of its key
pub row_of-put : (rows : List Row) (cookie : Row) → row_of (key_of cookie) (put rows cookie) ≡ Some cookie
row_of-put rows cookie =
    let key = key_of cookie in
    let here : has_key key cookie ≡ true = same_key_equiv.refl key in
    cond_both (list_any (has_key key) rows) (replaced (has_key key) rows cookie) (placed rows cookie)
    (λ zs. row_of key zs ≡ Some cookie)
    (λ some. find-replaced (has_key key) rows cookie some here)
    (λ new. row_of-placed rows cookie new)

-- the first item that passes was changed, if it passes still
find-changed : {T : Type 0} (test : T → Bool) (change : T → T) → ((x : T) → test x ≡ true → test (change x) ≡ true) → (xs : List T) (found : T) → find test xs ≡ Some found → find test (changed test change xs) ≡ Some (change found)
find-changed test change after [] found here = grind (arith, here)
find-changed test change after (x ∷ xs) found here = grind (arith, here, after x, find-changed test change after xs found)

-- the row of the key is expired
pub row_of-expired_row : (key : Key) (rows : List Row) (row : Row) → row_of key rows ≡ Some row → row_of key (changed (has_key key) expired_row rows) ≡ Some (expired_row row)
row_of-expired_row key rows row held = find-changed (has_key key) expired_row (λ _ same. same) rows row held

-- storing a cookie does not change the row of another key
pub row_of-put_other : (key : Key) (rows : List Row) (cookie : Row) → same_key key (key_of cookie) ≡ false → row_of key (put rows cookie) ≡ row_of key rows
row_of-put_other key rows cookie away =
    let test = same_key key in
    let here : test key ≡ true = same_key_equiv.refl key in
    sym (row_of-passing test key (put rows cookie) here) ∙ ap (row_of key) (put-other test rows cookie away) ∙ row_of-passing test key rows here

-- nor does expiring the row of another key
pub row_of-expired_other : (key own : Key) (rows : List Row) → same_key key own ≡ false → row_of key (changed (has_key own) expired_row rows) ≡ row_of key rows
row_of-expired_other key own rows away =
    let test = same_key key in
    let here : test key ≡ true = same_key_equiv.refl key in
    sym (row_of-passing test key (changed (has_key own) expired_row rows) here) ∙ ap (row_of key) (expired_row-other test own rows away) ∙ row_of-passing test key rows here

-- if no item passes, none is found
pub find-none : {T : Type 0} (test : T → Bool) (xs : List T) → list_any test xs ≡ false → find test xs ≡ None
find-none test [] none = refl
find-none test (x ∷ xs) none = grind (arith, find-none test xs)

-- the row of a key that survives is found among the surviving rows
pub row_of-stays : (keys : List Key) (key : Key) (store : Contents) → list_any (same_key key) keys ≡ false → row_of key (without keys store).rows ≡ row_of key store.rows
row_of-stays keys key store stays = row_of-passing (is_none_of keys) key store.rows (ap not stays)

-- the row of an evicted key is not
pub row_of-leaves : (keys : List Key) (key : Key) (store : Contents) → list_any (same_key key) keys ≡ true → row_of key (without keys store).rows ≡ None
row_of-leaves keys key store leaves =
    let rest = λ (row : Row). is_none_of keys (key_of row) in
    let apart : (row : Row) → rest row ≡ true → has_key key row ≡ false = λ row calls_related_to.
    ⊎_elim (λ same. absurd (both_ways (list_any (same_key (key_of row)) keys) (not-true _ calls_related_to) (sym (ap (λ k. list_any (same_key k) keys) (same_key-true key (key_of row) same)) ∙ leaves)))
    (λ differs. differs)
    (cases_Bool (has_key key row)) in
    find-none (has_key key) (without keys store).rows (none-apart (has_key key) rest apart store.rows)
