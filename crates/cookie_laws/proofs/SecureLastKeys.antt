-- Evictions of Secure rows last, as removals.
use Rattle.std.proofs.Common.{◌≡◌, ℕ, zero, suc, ◌+◌, ◌-◌, ◌≤◌, ◌<◌, Bool, true, false, not, ◌&&◌, List, [], ◌∷◌, ◌++◌, append_assoc, length, map, take, drop, Option, Some, None, Result, Ok, Err, ◌∙◌, refl, sym, ap, arith}
use Rattle.std.specs.Prelude.{is_some, nat_le}
use Rattle.std.specs.List.{filter, list_any}
use Rattle.std.proofs.lemmas.Bool.{and_parts, and_right, leb-false}
use Rattle.std.proofs.lemmas.List.{length-append, length-drop, take-append-drop, take-append-le}
use Rattle.std.proofs.lemmas.List.Elements.{filter-append}
use Rattle.url.specs.Parts.{Parts}
use Rattle.cookie_words.specs.Moments.{Moment}
use Rattle.cookie_parts.specs.Cookie.{Row, is_expired, is_secure_only}
use Rattle.cookie_parts.specs.Hosts.{passes}
use Rattle.cookie_parts.specs.declared.cookie_error.CookieError.{CookieError}
use Rattle.cookie_parts.specs.declared.store_action.StoreAction.{StoreAction}
use Rattle.cookie_parts.specs.declared.store_action.StoreAction.TheVariants.{Inserted, ExpiredExisting, UpdatedExisting}
use Rattle.cookie_laws.specs.Acceptance.{accept, admitted, outcome_after_checks, reply_at, store_by}
use Rattle.cookie_laws.specs.Contents.{Contents, HasCreationOrder, eviction_order, evicted, has_expired, is_none_of, over_limit, with_cookie, without}
use Rattle.cookie_laws.specs.Rows.{Key, are_rows, differ, has_key, is_unexpired, key_of, row_of, same_domain, same_key}
use Rattle.cookie_laws.specs.Runs.{Insert, store_after}
use Rattle.cookie_laws.specs.SecureLast.{accept_secure_last, evicted_by, evicted_secure_last, is_full_of_secure, is_plain_key, is_secure_key, over_limit_secure_last, removals, secure_last_calls, secure_last_order, store_after_checks_secure_last, store_secure_last_by}
use Rattle.cookie_laws.proofs.AcceptanceOfKeys.{HasKey, admitted-HasKey}
use Rattle.cookie_laws.proofs.DomainEvictionOrder.{none-passing}
use Rattle.cookie_laws.proofs.Filtered.{filter-all, none-append, none-filter, none-take}
use Rattle.cookie_laws.proofs.RowsByKey.{find-none}
use Rattle.cookie_laws.proofs.LimitedRows.{found-any, reply_at-new}
use Rattle.cookie_laws.proofs.Removals.{all_removed, all_removed-prefix, removed_from, removed_from-without, row_of-all_removed, store_after-append, store_after-removals}

-- the three parts of the eviction order

-- counts of items that pass tests
module _ {T : Type 0} where
  -- what one test passes, what another does, and what neither does
  parts-count : (p r : T → Bool) → ((x : T) → r x ≡ true → p x ≡ false) → (test : T → Bool) (xs : List T)
      → length (filter test (filter p xs)) + length (filter test (filter (λ x. not (p x) && not (r x)) xs)) + length (filter test (filter r xs))
      ≡ length (filter test xs)
  parts-count p r apart test [] = refl
  parts-count p r apart test (x ∷ xs) = grind (arith, apart x, parts-count p r apart test xs)

  -- what a test passes, and what it does not
  halves-count : (p test : T → Bool) (xs : List T)
      → length (filter test (filter p xs)) + length (filter test (filter (λ x. not (p x)) xs)) ≡ length (filter test xs)
  halves-count p test [] = refl
  halves-count p test (x ∷ xs) = grind (arith, halves-count p test xs)

  -- nothing passes of what does not
  none-count : (p : T → Bool) (xs : List T) → length (filter p (filter (λ x. not (p x)) xs)) ≡ 0
  none-count p [] = refl
  none-count p (x ∷ xs) = grind (arith, none-count p xs)

  -- no more pass than there are
  filter-shorter : (p : T → Bool) (xs : List T) → length (filter p xs) ≤ length xs
  filter-shorter p [] = omega arith
  filter-shorter p (x ∷ xs) = grind (arith, filter-shorter p xs)

  -- of three lists joined, how many pass
  joined-count : (test : T → Bool) (xs ys zs : List T)
      → length (filter test (xs ++ ys ++ zs)) ≡ length (filter test xs) + length (filter test ys) + length (filter test zs)
  joined-count test xs ys zs =
      ap length (filter-append test (xs ++ ys) zs)
      ∙ length-append (filter test (xs ++ ys)) (filter test zs)
      ∙ ap (λ n. n + length (filter test zs)) (ap length (filter-append test xs ys) ∙ length-append (filter test xs) (filter test ys))

-- an unexpired Secure row has not expired
unexpired-secure : (now : Moment) (row : Option Row) → passes (λ r. is_unexpired now r && is_secure_only r.raw) row ≡ true
    → passes (is_expired now) row ≡ false
unexpired-secure now None is = absurd (cc)
unexpired-secure now (Some row) is = grind (arith, is)

-- at this time, among these rows
module _ (now : Moment) (rows : List Row) where
  -- so no key of an expired row is one of a Secure row
  secure-unexpired : (key : Key) → is_secure_key now rows key ≡ true → has_expired now rows key ≡ false
  secure-unexpired key is = unexpired-secure now (row_of key rows) is

  -- the eviction order has each key as often as it was given
  secure_last_order-count : (test : Key → Bool) (keys : List Key) → length (filter test (secure_last_order now rows keys)) ≡ length (filter test keys)
  secure_last_order-count test keys =
      joined-count test (filter (has_expired now rows) keys) (filter (is_plain_key now rows) keys) (filter (is_secure_key now rows) keys)
      ∙ parts-count (has_expired now rows) (is_secure_key now rows) secure-unexpired test keys

  -- and as many keys
  secure_last_order-length : (keys : List Key) → length (secure_last_order now rows keys) ≡ length keys
  secure_last_order-length keys =
      sym (ap length (filter-all (secure_last_order now rows keys))) ∙ secure_last_order-count (λ _. true) keys ∙ ap length (filter-all keys)

-- nothing more is evicted

-- if the first n keys of the eviction order are removed, of their domain at most the others remain
own-left : (now : Moment) (rows : List Row) (new : Key) (created : List Key) (n : ℕ)
    → length (filter (same_domain new) (all_removed same_key (take n (secure_last_order now rows (filter (same_domain new) created))) created))
    ≤ length (filter (same_domain new) created) - n
own-left now rows new created n =
    let near = same_domain new in
    let keys = filter near created in
    let order = secure_last_order now rows keys in
    let others = filter (λ key. not (near key)) created in
    let prefix = take n order in
    let back = drop n order in
    let all : prefix ++ (back ++ others) ≡ order ++ others =
    sym (append_assoc prefix back others) ∙ ap (λ ks. ks ++ others) (take-append-drop n order) in
    let alike : (test : Key → Bool) → length (filter test created) ≡ length (filter test (prefix ++ (back ++ others))) = λ test.
    let order_count = secure_last_order-count now rows test keys in
    let halves_count = halves-count near test created in
    let joined = ap length (filter-append test order others) ∙ length-append (filter test order) (filter test others) in
    let counted : length (filter test created) ≡ length (filter test (order ++ others)) = omega (arith, order_count, halves_count, joined) in
    counted ∙ ap (λ ks. length (filter test ks)) (sym all) in
    let left = all_removed-prefix prefix created (back ++ others) alike near in
    let away = none-count near created in
    let joined = ap length (filter-append near back others) ∙ length-append (filter near back) (filter near others) in
    let fewer = filter-shorter near back in
    let long = length-drop n order ∙ ap (λ m. m - n) (secure_last_order-length now rows keys) in
    omega (arith, left, away, joined, fewer, long)

-- a prefix of nothing is nothing
take-none : (n : ℕ) → take {A = Key} n [] ≡ []
take-none zero = refl
take-none (suc n) = refl

-- if as many of some keys remain as fit the limit with one more, none of them is over it
over_limit-fits : (limit many : ℕ) (now : Moment) (rows : List Row) (keys : List Key) → length keys ≤ many - (many + 1 - limit)
    → over_limit (Some limit) now rows keys ≡ []
over_limit-fits limit many now rows [] fits = take-none (0 + 1 - limit)
over_limit-fits limit many now rows (key ∷ keys) fits =
    let room : length (key ∷ keys) + 1 - limit ≡ 0 = omega (arith, fits) in
    ap (λ n. take n (eviction_order now rows (key ∷ keys))) room

-- so no more is evicted after the removals
over_limit-removed : (limit : Option ℕ) (now : Moment) (rows left : List Row) (new : Key) (created : List Key)
    → over_limit limit now left
    (filter (same_domain new) (all_removed same_key (over_limit_secure_last limit now rows (filter (same_domain new) created)) created)) ≡ []
over_limit-removed None now rows left new created = refl
over_limit-removed (Some limit) now rows left new created =
    let many = length (filter (same_domain new) created) in
    over_limit-fits limit many now left _ (own-left now rows new created (many + 1 - limit))

-- in a store
evicted-removed : (store : Contents) (now : Moment) (key : Key) → evicted (removed_from (evicted_secure_last store now key) store) now key ≡ []
evicted-removed store now key =
    over_limit-removed store.limit now store.rows (removed_from (evicted_secure_last store now key) store).rows key store.created

-- and after calls
pub evicts_no_more : (store : Contents) (now : Moment) (key : Key)
    → evicted (store_after (removals (evicted_secure_last store now key)) store) now key ≡ []
evicts_no_more store now key =
    ap (λ after. evicted after now key) (store_after-removals (evicted_secure_last store now key) store) ∙ evicted-removed store now key

-- no unexpired Secure row is evicted while one that is not Secure would do

-- with room for one more Secure row, no key of a Secure row is over the limit
over_limit-secure : (limit : Option ℕ) (now : Moment) (rows : List Row) (keys : List Key) (key : Key)
    → passes (λ most. nat_le most (length (filter (is_secure_key now rows) keys))) limit ≡ false → is_secure_key now rows key ≡ true
    → list_any (same_key key) (over_limit_secure_last limit now rows keys) ≡ false
over_limit-secure None now rows keys key room is = refl
over_limit-secure (Some limit) now rows keys key room is =
    let expired = filter (has_expired now rows) keys in
    let plain = filter (is_plain_key now rows) keys in
    let secure = filter (is_secure_key now rows) keys in
    let n = length keys + 1 - limit in
    let few : length secure < limit = leb-false limit (length secure) room in
    let fits : n ≤ length (expired ++ plain) =
    omega (arith, few, secure_last_order-length now rows keys, length-append (expired ++ plain) secure) in
    let no_plain : is_plain_key now rows key ≡ false = and_right (not (has_expired now rows key)) (not (is_secure_key now rows key)) (ap not is) in
    ap (list_any (same_key key)) (take-append-le n (expired ++ plain) secure fits)
    ∙ none-take (same_key key) n (expired ++ plain)
    (none-append (same_key key) expired plain
    (none-passing (has_expired now rows) key keys (secure-unexpired now rows key is))
    (none-passing (is_plain_key now rows) key keys no_plain))

-- so its row remains
pub secure_stays : (store : Contents) (now : Moment) (new key : Key) → is_full_of_secure store now new ≡ false → is_secure_key now store.rows key ≡ true
    → row_of key (store_after (removals (evicted_secure_last store now new)) store).rows ≡ row_of key store.rows
secure_stays store now new key room is =
    let keys = evicted_secure_last store now new in
    ap (λ after. row_of key after.rows) (store_after-removals keys store)
    ∙ row_of-all_removed key keys store.rows
    (over_limit-secure store.limit now store.rows (filter (same_domain new) store.created) key room is)

-- the plain calls leave the same store

-- a store without the rows of no keys
without-none : (store : Contents) → without [] store ≡ store
without-none store = λ i. record store { rows = filter-all store.rows i; created = filter-all store.created i }

-- a key that has no row has none without other rows
row_of-new : (keys : List Key) (key : Key) (store : Contents) → is_some (row_of key store.rows) ≡ false
    → row_of key (without keys store).rows ≡ row_of key store.rows
row_of-new keys key store new =
    let none : list_any (has_key key) store.rows ≡ false = sym (found-any (has_key key) store.rows) ∙ new in
    find-none (has_key key) (without keys store).rows (none-filter (has_key key) (λ row. is_none_of keys (key_of row)) store.rows none)
    ∙ sym (find-none (has_key key) store.rows none)

-- an insertion with this reply leaves the same store after the removals
store_by-removed : (reply : Result StoreAction CookieError) (store : Contents) (cookie : Row) (url : Parts) (now : Moment)
    → differ same_key (map key_of store.rows) ≡ true → differ same_key store.created ≡ true
    → reply_at (row_of (key_of cookie) store.rows) cookie url now ≡ reply
    → let rest = removed_from (evicted_by reply store now (key_of cookie)) store in
    store_by (reply_at (row_of (key_of cookie) rest.rows) cookie url now) rest cookie now ≡ store_secure_last_by reply store cookie now
store_by-removed (Ok Inserted) store cookie url now rows_differ keys_differ is =
    let key = key_of cookie in
    let keys = evicted_secure_last store now key in
    let rest = without keys store in
    let left : removed_from keys store ≡ rest = removed_from-without keys store rows_differ keys_differ in
    let new = row_of-new keys key store (reply_at-new (row_of key store.rows) cookie url now is) in
    let no_more : evicted rest now key ≡ [] = sym (ap (λ after. evicted after now key) left) ∙ evicted-removed store now key in
    ap (λ after. store_by (reply_at (row_of key after.rows) cookie url now) after cookie now) left
    ∙ ap (λ row. store_by (reply_at row cookie url now) rest cookie now) new
    ∙ ap (λ reply. store_by reply rest cookie now) is
    ∙ ap (λ more. with_cookie (without more rest) cookie) no_more
    ∙ ap (λ after. with_cookie after cookie) (without-none rest)
store_by-removed (Ok UpdatedExisting) store cookie url now rows_differ keys_differ is = ap (λ reply. store_by reply store cookie now) is
store_by-removed (Ok ExpiredExisting) store cookie url now rows_differ keys_differ is = ap (λ reply. store_by reply store cookie now) is
store_by-removed (Err rejection) store cookie url now rows_differ keys_differ is = ap (λ reply. store_by reply store cookie now) is

-- so does that of an admitted cookie, or an error
outcome_after_checks-removed : (key : Key) (cookie_result : Result Row CookieError) (url : Parts) (now : Moment) (store : Contents)
    → HasKey key cookie_result → differ same_key (map key_of store.rows) ≡ true → differ same_key store.created ≡ true
    → (outcome_after_checks cookie_result url now
    (removed_from (evicted_by (outcome_after_checks cookie_result url now store).reply store now key) store)).store
    ≡ store_after_checks_secure_last cookie_result url now store
outcome_after_checks-removed key (Err rejection) url now store same rows_differ keys_differ = refl
outcome_after_checks-removed key (Ok cookie) url now store same rows_differ keys_differ =
    let reply = reply_at (row_of (key_of cookie) store.rows) cookie url now in
    ap (λ k. (outcome_after_checks (Ok cookie) url now (removed_from (evicted_by reply store now k) store)).store) (sym same)
    ∙ store_by-removed reply store cookie url now rows_differ keys_differ refl

-- and of any cookie
pub accepts_secure_last : (store : Contents) (cookie : Row) (url : Parts) (now : Moment) → are_rows store.rows ≡ true → HasCreationOrder store
    → store_after (secure_last_calls store cookie url now) store ≡ accept_secure_last store cookie url now
unfolding accept
accepts_secure_last store cookie url now rows has =
    let keys = evicted_by (accept store cookie url now).reply store now (key_of cookie) in
    store_after-append (removals keys) (Insert cookie url now ∷ []) store
    ∙ ap (store_after (Insert cookie url now ∷ [])) (store_after-removals keys store)
    ∙ outcome_after_checks-removed (key_of cookie) (admitted store.suffixes url cookie) url now store (admitted-HasKey store.suffixes url cookie)
    (and_parts _ _ rows).0 has.1
