-- A store restricted to the domains that pass a test: calls, evictions of Secure rows last, and the Cookie header.
use Rattle.std.proofs.Common.{◌≡◌, ℕ, ◌+◌, ◌-◌, Bool, true, false, not, List, [], ◌∷◌, ◌++◌, length, take, Option, Some, None, Result, Ok, Err, ◌∙◌, refl, sym, ap, subst, IsPermutation, arith}
use Rattle.std.specs.Prelude.{nat_le, ◌&&◌}
use Rattle.std.specs.List.{All, filter, list_any}
use Rattle.std.proofs.lemmas.List.Elements.{All-head, All-tail}
use Rattle.std.proofs.lemmas.List.Sorted.{All-permutation}
use Rattle.std.proofs.lemmas.Slice.Eq.{bytes_eq-Decides}
use Rattle.url.specs.Parts.{Parts}
use Rattle.cookie_words.specs.Moments.{Moment}
use Rattle.cookie_parts.specs.Cookie.{Row, is_expired, is_secure_only}
use Rattle.cookie_parts.specs.Hosts.{passes}
use Rattle.cookie_parts.specs.declared.cookie_error.CookieError.{CookieError}
use Rattle.cookie_parts.specs.declared.store_action.StoreAction.{StoreAction}
use Rattle.cookie_parts.specs.declared.store_action.StoreAction.TheVariants.{Inserted, ExpiredExisting, UpdatedExisting}
use Rattle.cookie_laws.specs.Acceptance.{Outcome, accept}
use Rattle.cookie_laws.specs.Contents.{Contents, has_expired}
use Rattle.cookie_laws.specs.Given.{given, is_given}
use Rattle.cookie_laws.specs.Header.{InHeaderOrder}
use Rattle.cookie_laws.specs.Related.{passes_or_none}
use Rattle.cookie_laws.specs.Restricted.{is_call_of, is_row_of, restricted, restricted_step}
use Rattle.cookie_laws.specs.Rows.{Key, is_unexpired, key_of, row_of, same_domain}
use Rattle.cookie_laws.specs.Runs.{Call, Insert, Remove, Step, step, store_after}
use Rattle.cookie_laws.specs.SecureLast.{evicted_by, evicted_secure_last, is_full_of_secure, is_plain_key, is_secure_key, over_limit_secure_last, removals, secure_last_calls, secure_last_order}
use Rattle.cookie_laws.proofs.AcceptanceOfKeys.{accept-passing}
use Rattle.cookie_laws.proofs.Filtered.{filter-alike, filter-swap, filter-within, none-append, none-apart, none-filter, none-take}
use Rattle.cookie_laws.proofs.HeaderOrder.{same_order}
use Rattle.cookie_laws.proofs.RowsOfKeys.{IsByDomain, row_of-passing}
use Rattle.cookie_laws.proofs.RunsOfKeys.{IsOfKeys, step-kept, step-lost}

-- a filter of what all passes
filter-each : {T : Type 0} (p : T → Bool) (xs : List T) → All (λ x. p x ≡ true) xs → filter p xs ≡ xs
filter-each p [] all = refl
filter-each p (x ∷ xs) all =
    grind (arith, All-head (λ y. p y ≡ true) x xs all, filter-each p xs (All-tail (λ y. p y ≡ true) x xs all))

-- if no key of a domain passes a test, none that is over its limit does
over_limit_secure_last-apart : (limit : Option ℕ) (now : Moment) (rows : List Row) (keys : List Key) (p : Key → Bool) → list_any p keys ≡ false
    → list_any p (over_limit_secure_last limit now rows keys) ≡ false
over_limit_secure_last-apart None now rows keys p apart = refl
over_limit_secure_last-apart (Some limit) now rows keys p apart =
    let expired = filter (has_expired now rows) keys in
    let plain = filter (is_plain_key now rows) keys in
    let secure = filter (is_secure_key now rows) keys in
    none-take p (length keys + 1 - limit) (secure_last_order now rows keys)
    (none-append p (expired ++ plain) secure
    (none-append p expired plain (none-filter p (has_expired now rows) keys apart) (none-filter p (is_plain_key now rows) keys apart))
    (none-filter p (is_secure_key now rows) keys apart))

module _ (test : List ℕ → Bool) where
  -- the domain of the key passes
  abbrev is_in : Key → Bool
  is_in key = test key.domain

  by_domain : IsByDomain is_in
  by_domain a b same = ap test ((bytes_eq-Decides a.domain b.domain).0 same)

  calls_of : IsOfKeys is_in (is_call_of test)
  calls_of = record { domains = by_domain; calls = λ call key is. ap (passes_or_none is_in) is; clear = refl }

  pub row-restricted : (key : Key) (store : Contents) → test key.domain ≡ true → row_of key (restricted test store).rows ≡ row_of key store.rows
  row-restricted key store here = row_of-passing is_in key store.rows here

  pub step-restricted : (call : Call) (store : Contents) → is_call_of test call ≡ true → step call (restricted test store) ≡ restricted_step test (step call store)
  step-restricted call store here = step-kept calls_of call store here

  pub step-apart : (call : Call) (store : Contents) → is_call_of test call ≡ false → restricted test (step call store).store ≡ restricted test store
  step-apart call store away = step-lost calls_of call store away

  -- evictions

  -- the row of a key that passes is Secure among the rows that pass as among all
  secure-restricted : (now : Moment) (key : Key) (store : Contents) → test key.domain ≡ true
      → is_secure_key now (restricted test store).rows key ≡ is_secure_key now store.rows key
  secure-restricted now key store here = ap (passes (λ row. is_unexpired now row && is_secure_only row.raw)) (row-restricted key store here)

  expired-restricted : (now : Moment) (key : Key) (store : Contents) → test key.domain ≡ true
      → has_expired now (restricted test store).rows key ≡ has_expired now store.rows key
  expired-restricted now key store here = ap (passes (is_expired now)) (row-restricted key store here)

  module _ (store : Contents) (now : Moment) (key : Key) (here : test key.domain ≡ true) where
    -- a key of the same domain passes
    near : (other : Key) → same_domain key other ≡ true → is_in other ≡ true
    near other same = sym (by_domain key other same) ∙ here

    -- the keys of the domain
    own_keys : filter (same_domain key) (restricted test store).created ≡ filter (same_domain key) store.created
    own_keys = filter-within is_in (same_domain key) near store.created

    own_order : (created : List Key) → let keys = filter (same_domain key) created in
        secure_last_order now (restricted test store).rows keys ≡ secure_last_order now store.rows keys
    own_order created =
        let rows = (restricted test store).rows in
        let expired = filter-alike (has_expired now rows) (has_expired now store.rows) (same_domain key)
        (λ other same. expired-restricted now other store (near other same)) created in
        let plain = filter-alike (is_plain_key now rows) (is_plain_key now store.rows) (same_domain key)
        (λ other same. let e = expired-restricted now other store (near other same) in let s = secure-restricted now other store (near other same) in
        λ i. not (e i) && not (s i)) created in
        let secure = filter-alike (is_secure_key now rows) (is_secure_key now store.rows) (same_domain key)
        (λ other same. secure-restricted now other store (near other same)) created in
        λ i. expired i ++ plain i ++ secure i

    own_over_limit : (limit : Option ℕ) (created : List Key) → let keys = filter (same_domain key) created in
        over_limit_secure_last limit now (restricted test store).rows keys ≡ over_limit_secure_last limit now store.rows keys
    own_over_limit None created = refl
    own_over_limit (Some limit) created = ap (take (length (filter (same_domain key) created) + 1 - limit)) (own_order created)

    evicted-restricted : evicted_secure_last (restricted test store) now key ≡ evicted_secure_last store now key
    evicted-restricted =
        ap (over_limit_secure_last store.limit now (restricted test store).rows) own_keys ∙ own_over_limit store.limit store.created

    -- a domain is full of Secure rows as it is among all
    pub full-restricted : is_full_of_secure (restricted test store) now key ≡ is_full_of_secure store now key
    full-restricted =
        let secure = filter-alike (is_secure_key now (restricted test store).rows) (is_secure_key now store.rows) (same_domain key)
        (λ other same. secure-restricted now other store (near other same)) store.created in
        ap (λ keys. passes (λ limit. nat_le limit (length keys)) store.limit)
        (ap (filter (is_secure_key now (restricted test store).rows)) own_keys ∙ secure)

    evicted_by-restricted : (reply : Result StoreAction CookieError) → evicted_by reply (restricted test store) now key ≡ evicted_by reply store now key
    evicted_by-restricted (Ok Inserted) = evicted-restricted
    evicted_by-restricted (Ok UpdatedExisting) = refl
    evicted_by-restricted (Ok ExpiredExisting) = refl
    evicted_by-restricted (Err rejection) = refl

  -- the keys that are evicted for a key are of its domain
  evicted-apart : (store : Contents) (now : Moment) (key : Key) (p : Key → Bool) → ((other : Key) → same_domain key other ≡ true → p other ≡ false)
      → (reply : Result StoreAction CookieError) → list_any p (evicted_by reply store now key) ≡ false
  evicted-apart store now key p apart (Ok Inserted) =
      over_limit_secure_last-apart store.limit now store.rows (filter (same_domain key) store.created) p (none-apart p (same_domain key) apart store.created)
  evicted-apart store now key p apart (Ok UpdatedExisting) = refl
  evicted-apart store now key p apart (Ok ExpiredExisting) = refl
  evicted-apart store now key p apart (Err rejection) = refl

  -- removals of keys that pass, and of keys that do not
  removals-restricted : (keys : List Key) (more : List Call) (store : Contents) → list_any (λ key. not (is_in key)) keys ≡ false
      → ((after : Contents) → store_after more (restricted test after) ≡ restricted test (store_after more after))
      → store_after (removals keys ++ more) (restricted test store) ≡ restricted test (store_after (removals keys ++ more) store)
  removals-restricted [] more store all last = last store
  removals-restricted (key ∷ keys) more store all last =
      let here : is_in key ≡ true = grind (arith, all) in
      let rest : list_any (λ k. not (is_in k)) keys ≡ false = grind (arith, all) in
      ap (λ (after : Step). store_after (removals keys ++ more) after.store) (step-restricted (Remove key) store here)
      ∙ removals-restricted keys more (step (Remove key) store).store rest last

  removals-apart : (keys : List Key) (more : List Call) (store : Contents) → list_any is_in keys ≡ false
      → ((after : Contents) → restricted test (store_after more after) ≡ restricted test after)
      → restricted test (store_after (removals keys ++ more) store) ≡ restricted test store
  removals-apart [] more store none last = last store
  removals-apart (key ∷ keys) more store none last =
      let away : is_in key ≡ false = grind (arith, none) in
      let rest : list_any is_in keys ≡ false = grind (arith, none) in
      removals-apart keys more (step (Remove key) store).store rest last ∙ step-apart (Remove key) store away

  -- an insertion that evicts Secure rows last
  pub secure_last-restricted : (store : Contents) (cookie : Row) (url : Parts) (now : Moment) → is_row_of test cookie ≡ true
      → store_after (secure_last_calls (restricted test store) cookie url now) (restricted test store)
      ≡ restricted test (store_after (secure_last_calls store cookie url now) store)
  secure_last-restricted store cookie url now here =
      let key = key_of cookie in
      let part = restricted test store in
      let reply = (accept store cookie url now).reply in
      let last = Insert cookie url now ∷ [] in
      let same : evicted_by (accept part cookie url now).reply part now key ≡ evicted_by reply store now key =
      ap (λ (o : Outcome). evicted_by o.reply part now key) (accept-passing is_in by_domain store cookie url now here)
      ∙ evicted_by-restricted store now key here reply in
      ap (λ keys. store_after (removals keys ++ last) part) same
      ∙ removals-restricted (evicted_by reply store now key) last store
      (evicted-apart store now key (λ k. not (is_in k)) (λ other near. ap not (sym (by_domain key other near) ∙ here)) reply)
      (λ after. ap (λ (s : Step). s.store) (step-restricted (Insert cookie url now) after here))

  pub secure_last-apart : (store : Contents) (cookie : Row) (url : Parts) (now : Moment) → is_row_of test cookie ≡ false
      → restricted test (store_after (secure_last_calls store cookie url now) store) ≡ restricted test store
  secure_last-apart store cookie url now away =
      let key = key_of cookie in
      let reply = (accept store cookie url now).reply in
      removals-apart (evicted_by reply store now key) (Insert cookie url now ∷ []) store
      (evicted-apart store now key is_in (λ other near. sym (by_domain key other near) ∙ away) reply)
      (λ after. step-apart (Insert cookie url now) after away)

  -- the cookies of a request, if all of them pass

  module _ (url : Parts) (now : Moment) where
    -- all that are given from these rows pass
    abbrev PassGiven : List Row → Type 0
    PassGiven rows = All (λ row. is_row_of test row ≡ true) (given url now rows)

    given-part : (rows : List Row) → PassGiven rows → given url now (filter (is_row_of test) rows) ≡ given url now rows
    given-part rows all = filter-swap (is_given url now) (is_row_of test) rows ∙ filter-each (is_row_of test) (given url now rows) all

    pub given-restricted : (store other : Contents) → restricted test store ≡ restricted test other → PassGiven store.rows → PassGiven other.rows
        → given url now store.rows ≡ given url now other.rows
    given-restricted store other same all all_other =
        sym (given-part store.rows all) ∙ ap (λ (s : Contents). given url now s.rows) same ∙ given-part other.rows all_other

    pub header-restricted : (store other : Contents) (cookies : List Row) → restricted test store ≡ restricted test other → PassGiven store.rows
        → PassGiven other.rows → InHeaderOrder url now store cookies → InHeaderOrder url now other cookies
    header-restricted store other cookies same all all_other ordered = (
      subst (λ rows. IsPermutation rows cookies) (given-restricted store other same all all_other) ordered.0,
      same_order is_in store.created other.created (ap (λ (s : Contents). s.created) same) cookies
          (All-permutation (λ row. is_row_of test row ≡ true) (given url now store.rows) cookies ordered.0 all) ordered.1,
    )
