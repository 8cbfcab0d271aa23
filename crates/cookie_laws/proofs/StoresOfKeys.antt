-- A store cut to the rows whose keys pass a test, as cookies are stored and rows evicted.
use Rattle.std.proofs.Common.{◌≡◌, ℕ, ◌+◌, ◌-◌, Bool, true, false, not, List, [], ◌∷◌, ◌++◌, length, take, append-nil, Option, Some, None, Result, Ok, Err, ◌∙◌, refl, sym, ap, ⊎_elim, if◌then◌else◌}
use Rattle.std.specs.List.{filter, list_any}
use Rattle.std.proofs.lemmas.Bool.{both_ways, cases_Bool, cond_both}
use Rattle.std.proofs.lemmas.List.Elements.{filter-append}
use Rattle.cookie_words.specs.Moments.{Moment}
use Rattle.cookie_parts.specs.Cookie.{Row, is_expired}
use Rattle.cookie_parts.specs.Hosts.{passes}
use Rattle.cookie_parts.specs.declared.cookie_error.CookieError.{CookieError}
use Rattle.cookie_parts.specs.declared.store_action.StoreAction.{StoreAction}
use Rattle.cookie_parts.specs.declared.store_action.StoreAction.TheVariants.{Inserted, ExpiredExisting, UpdatedExisting}
use Rattle.cookie_laws.specs.Acceptance.{store_by}
use Rattle.cookie_laws.specs.Contents.{Contents, over_limit, eviction_order, has_expired, is_none_of, with_cookie, evicted, without}
use Rattle.cookie_laws.specs.Rows.{Key, key_of, add_created, removed, same_domain, same_key, same_key-true}
use Rattle.cookie_laws.proofs.Filtered.{filter-alike, filter-swap, filter-within, list_any-kept, none-append, none-apart, none-filter, none-take, removed-kept, removed-lost}
use Rattle.cookie_laws.proofs.RowsOfKeys.{IsByDomain, cond_alike, expired_row-other, expired_row-passing, passing, put-other, put-passing, row_of-passing}

-- the store with the rows and the keys that pass
abbrev pub passing_store : (Key → Bool) → Contents → Contents
passing_store test store = record store { rows = passing test store.rows; created = filter test store.created }

-- a key passes as the same key does
pub same_key-passes : (test : Key → Bool) (key : Key) (expected : Bool) → test key ≡ expected → (other : Key) → same_key key other ≡ true → test other ≡ expected
same_key-passes test key expected holds other same = ap test (sym (same_key-true key other same)) ∙ holds

-- a key removed that passes
pub unmade-passing : (test : Key → Bool) (key : Key) (created : List Key) → test key ≡ true → filter test (removed (same_key key) created) ≡ removed (same_key key) (filter test created)
unmade-passing test key created here = removed-kept test (same_key key) (same_key-passes test key true here) created

-- a key removed that does not
pub unmade-other : (test : Key → Bool) (key : Key) (created : List Key) → test key ≡ false → filter test (removed (same_key key) created) ≡ filter test created
unmade-other test key created away = removed-lost test (same_key key) (same_key-passes test key false away) created

-- a passing key is added
add_created-passing : (test : Key → Bool) (created : List Key) (key : Key) → test key ≡ true → filter test (add_created created key) ≡ add_created (filter test created) key
add_created-passing test created key here =
    cond_alike (filter test) (list_any (same_key key) created) (list_any (same_key key) (filter test created))
    created (created ++ key ∷ []) (filter test created) (filter test created ++ key ∷ [])
    (list_any-kept test (same_key key) (same_key-passes test key true here) created)
    (λ _. refl)
    (λ _. filter-append test created (key ∷ []) ∙ ap (λ b. filter test created ++ (if b then key ∷ [] else [])) here)

-- a failing key is added
pub add_created-other : (test : Key → Bool) (created : List Key) (key : Key) → test key ≡ false → filter test (add_created created key) ≡ filter test created
add_created-other test created key away =
    cond_both (list_any (same_key key) created) created (created ++ key ∷ []) (λ keys. filter test keys ≡ filter test created)
    (λ _. refl)
    (λ _. filter-append test created (key ∷ []) ∙ ap (λ b. filter test created ++ (if b then key ∷ [] else [])) away ∙ append-nil (filter test created))

-- a cookie is kept whose key passes
with_cookie-passing : (test : Key → Bool) → IsByDomain test → (store : Contents) (cookie : Row) → test (key_of cookie) ≡ true → passing_store test (with_cookie store cookie) ≡ with_cookie (passing_store test store) cookie
with_cookie-passing test by_domain store cookie here =
    let rows = put-passing test by_domain store.rows cookie here in
    let created = add_created-passing test store.created (key_of cookie) here in
    λ i. record store { rows = rows i; created = created i }

-- a cookie is kept whose key does not pass
with_cookie-other : (test : Key → Bool) (store : Contents) (cookie : Row) → test (key_of cookie) ≡ false → passing_store test (with_cookie store cookie) ≡ passing_store test store
with_cookie-other test store cookie away =
    let rows = put-other test store.rows cookie away in
    let created = add_created-other test store.created (key_of cookie) away in
    λ i. record store { rows = rows i; created = created i }

-- evicting rows commutes with cutting to those that pass
without-passing : (test : Key → Bool) (keys : List Key) (store : Contents) → passing_store test (without keys store) ≡ without keys (passing_store test store)
without-passing test keys store =
    let rows = filter-swap (λ (row : Row). test (key_of row)) (λ row. is_none_of keys (key_of row)) store.rows in
    let created = filter-swap test (is_none_of keys) store.created in
    λ i. record store { rows = rows i; created = created i }

-- if no passing key is evicted, what passes is unchanged
without-other : (test : Key → Bool) (keys : List Key) → ((key : Key) → test key ≡ true → is_none_of keys key ≡ true) → (store : Contents) → passing_store test (without keys store) ≡ passing_store test store
without-other test keys stays store =
    let rows = filter-within (λ (row : Row). is_none_of keys (key_of row)) (λ row. test (key_of row)) (λ row. stays (key_of row)) store.rows in
    let created = filter-within (is_none_of keys) test stays store.created in
    λ i. record store { rows = rows i; created = created i }

-- the eviction order of passing keys is that among the passing rows
eviction_order-passing : (test : Key → Bool) (now : Moment) (rows : List Row) (domain : Key → Bool) → ((key : Key) → domain key ≡ true → test key ≡ true) → (created : List Key)
    → eviction_order now (passing test rows) (filter domain created) ≡ eviction_order now rows (filter domain created)
eviction_order-passing test now rows domain here created =
    let same = λ (key : Key) (within : domain key ≡ true). ap (passes (is_expired now)) (row_of-passing test key rows (here key within)) in
    let over = filter-alike (has_expired now (passing test rows)) (has_expired now rows) domain same created in
    let live = filter-alike (λ key. not (has_expired now (passing test rows) key)) (λ key. not (has_expired now rows key)) domain (λ key within. ap not (same key within)) created in
    λ i. over i ++ live i

-- so are the evicted ones among them
over_limit-passing : (limit : Option ℕ) (test : Key → Bool) (now : Moment) (rows : List Row) (domain : Key → Bool) → ((key : Key) → domain key ≡ true → test key ≡ true) → (created : List Key)
    → over_limit limit now (passing test rows) (filter domain created) ≡ over_limit limit now rows (filter domain created)
over_limit-passing None test now rows domain here created = refl
over_limit-passing (Some limit) test now rows domain here created =
    ap (take (length (filter domain created) + 1 - limit)) (eviction_order-passing test now rows domain here created)

-- for a passing key, the same keys are evicted among the passing rows as among all
evicted-passing : (test : Key → Bool) → IsByDomain test → (store : Contents) (now : Moment) (key : Key) → test key ≡ true → evicted (passing_store test store) now key ≡ evicted store now key
evicted-passing test by_domain store now key here =
    let domain = λ (other : Key) (same : same_domain key other ≡ true). sym (by_domain key other same) ∙ here in
    ap (over_limit store.limit now (passing test store.rows)) (filter-within test (same_domain key) domain store.created)
    ∙ over_limit-passing store.limit test now store.rows (same_domain key) domain store.created

-- a key outside a domain is not evicted with its keys
pub over_limit-apart : (limit : Option ℕ) (now : Moment) (rows : List Row) (keys : List Key) (p : Key → Bool) → list_any p keys ≡ false → list_any p (over_limit limit now rows keys) ≡ false
over_limit-apart None now rows keys p apart = refl
over_limit-apart (Some limit) now rows keys p apart =
    let over = has_expired now rows in
    none-take p (length keys + 1 - limit) (eviction_order now rows keys)
    (none-append p (filter over keys) (filter (λ key. not (over key)) keys) (none-filter p over keys apart) (none-filter p (λ key. not (over key)) keys apart))

-- for a failing key, no passing key is evicted
evicted-other : (test : Key → Bool) → IsByDomain test → (store : Contents) (now : Moment) (key : Key) → test key ≡ false → (other : Key) → test other ≡ true → is_none_of (evicted store now key) other ≡ true
evicted-other test by_domain store now key away other here =
    let apart : (k : Key) → same_domain key k ≡ true → same_key other k ≡ false = λ k near.
    ⊎_elim (λ same. absurd (both_ways (test k) (sym (by_domain key k near) ∙ away) (same_key-passes test other true here k same)))
    (λ differs. differs)
    (cases_Bool (same_key other k)) in
    ap not (over_limit-apart store.limit now store.rows (filter (same_domain key) store.created) (same_key other)
    (none-apart (same_key other) (same_domain key) apart store.created))

-- the store after a reply, for a cookie whose key passes
pub store_by-passing : (test : Key → Bool) → IsByDomain test → (reply : Result StoreAction CookieError) (store : Contents) (cookie : Row) (now : Moment) → test (key_of cookie) ≡ true
    → store_by reply (passing_store test store) cookie now ≡ passing_store test (store_by reply store cookie now)
store_by-passing test by_domain (Ok Inserted) store cookie now here =
    let keys = evicted store now (key_of cookie) in
    ap (λ leaves. with_cookie (without leaves (passing_store test store)) cookie) (evicted-passing test by_domain store now (key_of cookie) here)
    ∙ ap (λ rest. with_cookie rest cookie) (sym (without-passing test keys store))
    ∙ sym (with_cookie-passing test by_domain (without keys store) cookie here)
store_by-passing test by_domain (Ok UpdatedExisting) store cookie now here = sym (with_cookie-passing test by_domain store cookie here)
store_by-passing test by_domain (Ok ExpiredExisting) store cookie now here =
    let rows = expired_row-passing test (key_of cookie) store.rows here in
    λ i. record (passing_store test store) { rows = sym rows i }
store_by-passing test by_domain (Err rejection) store cookie now here = refl

-- and for one whose key does not
pub store_by-other : (test : Key → Bool) → IsByDomain test → (reply : Result StoreAction CookieError) (store : Contents) (cookie : Row) (now : Moment) → test (key_of cookie) ≡ false
    → passing_store test (store_by reply store cookie now) ≡ passing_store test store
store_by-other test by_domain (Ok Inserted) store cookie now away =
    let keys = evicted store now (key_of cookie) in
    with_cookie-other test (without keys store) cookie away
    ∙ without-other test keys (evicted-other test by_domain store now (key_of cookie) away) store
store_by-other test by_domain (Ok UpdatedExisting) store cookie now away = with_cookie-other test store cookie away
store_by-other test by_domain (Ok ExpiredExisting) store cookie now away =
    let rows = expired_row-other test (key_of cookie) store.rows away in
    λ i. record (passing_store test store) { rows = rows i }
store_by-other test by_domain (Err rejection) store cookie now away = refl
