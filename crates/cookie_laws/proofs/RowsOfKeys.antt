-- The rows whose keys pass a test, as cookies are stored and rows are expired or removed.
use Rattle.std.proofs.Common.{◌≡◌, Bool, true, false, cond, List, ◌∙◌, refl, sym, ap}
use Rattle.std.specs.List.{filter, list_any}
use Rattle.std.proofs.lemmas.Bool.{and_parts, cond_both}
use Rattle.cookie_parts.specs.Cookie.{Row, expired_row}
use Rattle.cookie_laws.specs.Rows.{Key, key_of, has_key, in_domain, in_group, row_of, after_last, changed, replaced, removed, placed, put, same_domain, same_key-true}
use Rattle.cookie_laws.proofs.Filtered.{find-kept, list_any-kept, after_last-kept, after_last-lost, changed-kept, changed-lost, removed-kept, removed-lost}

-- the rows whose keys pass
abbrev pub passing : (Key → Bool) → List Row → List Row
passing test rows = filter (λ row. test (key_of row)) rows

-- a row of a key passes as the key does
pub has_key-passes : (test : Key → Bool) (key : Key) (expected : Bool) → test key ≡ expected → (row : Row) → has_key key row ≡ true → test (key_of row) ≡ expected
has_key-passes test key expected holds row same = ap test (sym (same_key-true key (key_of row) same)) ∙ holds

-- the row of a key that passes is among the rows that do
pub row_of-passing : (test : Key → Bool) (key : Key) (rows : List Row) → test key ≡ true → row_of key (passing test rows) ≡ row_of key rows
row_of-passing test key rows here = find-kept (λ row. test (key_of row)) (has_key key) (has_key-passes test key true here) rows

-- a row removed of a key that passes
pub removed-passing : (test : Key → Bool) (key : Key) (rows : List Row) → test key ≡ true → passing test (removed (has_key key) rows) ≡ removed (has_key key) (passing test rows)
removed-passing test key rows here = removed-kept (λ row. test (key_of row)) (has_key key) (has_key-passes test key true here) rows

-- a row removed of a key that does not
pub removed-other : (test : Key → Bool) (key : Key) (rows : List Row) → test key ≡ false → passing test (removed (has_key key) rows) ≡ passing test rows
removed-other test key rows away = removed-lost (λ row. test (key_of row)) (has_key key) (has_key-passes test key false away) rows

-- a function of a choice is the choice of its values
pub cond_alike : {A B : Type 0} (f : A → B) (b c : Bool) (x y : A) (u v : B) → c ≡ b → (b ≡ true → f x ≡ u) → (b ≡ false → f y ≡ v) → f (cond b x y) ≡ cond c u v
cond_alike f true true x y u v same first second = first refl
cond_alike f true false x y u v same first second = cc
cond_alike f false true x y u v same first second = cc
cond_alike f false false x y u v same first second = second refl

-- the test looks at the domain of a key alone
abbrev pub IsByDomain : (Key → Bool) → Type 0
IsByDomain test = (a b : Key) → same_domain a b ≡ true → test a ≡ test b

-- a new row of a key that passes is placed among the rows that pass as among all
placed-passing : (test : Key → Bool) → IsByDomain test → (rows : List Row) (cookie : Row) → test (key_of cookie) ≡ true → passing test (placed rows cookie) ≡ placed (passing test rows) cookie
placed-passing test by_domain rows cookie here =
    let key = key_of cookie in
    let pass = λ (row : Row). test (key_of row) in
    let domain = λ (row : Row) (same : in_domain key row ≡ true). sym (by_domain key (key_of row) same) ∙ here in
    let group = λ (row : Row) (same : in_group key row ≡ true). domain row (and_parts _ _ same).0 in
    cond_alike (passing test) (list_any (in_group key) rows) (list_any (in_group key) (passing test rows))
    (after_last (in_group key) rows cookie) (after_last (in_domain key) rows cookie)
    (after_last (in_group key) (passing test rows) cookie) (after_last (in_domain key) (passing test rows) cookie)
    (list_any-kept pass (in_group key) group rows)
    (λ _. after_last-kept pass (in_group key) rows cookie here group)
    (λ _. after_last-kept pass (in_domain key) rows cookie here domain)

-- a cookie is stored whose key passes
pub put-passing : (test : Key → Bool) → IsByDomain test → (rows : List Row) (cookie : Row) → test (key_of cookie) ≡ true → passing test (put rows cookie) ≡ put (passing test rows) cookie
put-passing test by_domain rows cookie here =
    let key = key_of cookie in
    let pass = λ (row : Row). test (key_of row) in
    let kept = has_key-passes test key true here in
    cond_alike (passing test) (list_any (has_key key) rows) (list_any (has_key key) (passing test rows))
    (replaced (has_key key) rows cookie) (placed rows cookie)
    (replaced (has_key key) (passing test rows) cookie) (placed (passing test rows) cookie)
    (list_any-kept pass (has_key key) kept rows)
    (λ some. changed-kept pass (has_key key) (λ _. cookie) kept (λ _ _. here) rows)
    (λ _. placed-passing test by_domain rows cookie here)

-- a cookie is placed whose key does not pass
placed-other : (test : Key → Bool) (rows : List Row) (cookie : Row) → test (key_of cookie) ≡ false → passing test (placed rows cookie) ≡ passing test rows
placed-other test rows cookie away =
    let key = key_of cookie in
    let pass = λ (row : Row). test (key_of row) in
    cond_both (list_any (in_group key) rows) (after_last (in_group key) rows cookie) (after_last (in_domain key) rows cookie)
    (λ zs. passing test zs ≡ passing test rows)
    (λ _. after_last-lost pass (in_group key) rows cookie away)
    (λ _. after_last-lost pass (in_domain key) rows cookie away)

-- a cookie is stored whose key does not pass
pub put-other : (test : Key → Bool) (rows : List Row) (cookie : Row) → test (key_of cookie) ≡ false → passing test (put rows cookie) ≡ passing test rows
put-other test rows cookie away =
    let key = key_of cookie in
    let pass = λ (row : Row). test (key_of row) in
    cond_both (list_any (has_key key) rows) (replaced (has_key key) rows cookie) (placed rows cookie)
    (λ zs. passing test zs ≡ passing test rows)
    (λ _. changed-lost pass (has_key key) (λ _. cookie) (has_key-passes test key false away) (λ _ _. away) rows)
    (λ _. placed-other test rows cookie away)

-- the row of a passing key is expired
pub expired_row-passing : (test : Key → Bool) (key : Key) (rows : List Row) → test key ≡ true → passing test (changed (has_key key) expired_row rows) ≡ changed (has_key key) expired_row (passing test rows)
expired_row-passing test key rows here =
    let kept = has_key-passes test key true here in
    changed-kept (λ row. test (key_of row)) (has_key key) expired_row kept kept rows

-- the row of a failing key is expired
pub expired_row-other : (test : Key → Bool) (key : Key) (rows : List Row) → test key ≡ false → passing test (changed (has_key key) expired_row rows) ≡ passing test rows
expired_row-other test key rows away =
    let lost = has_key-passes test key false away in
    changed-lost (λ row. test (key_of row)) (has_key key) expired_row lost lost rows
