-- With a limit, a domain has at most `limit` rows after calls, or at most as many as before.
use Rattle.std.proofs.Common.{◌≡◌, ℕ, ◌+◌, ◌<◌, ◌≤◌, min, max, Bool, true, false, List, [], ◌∷◌, length, Option, Some, None, Result, Ok, Err, ◌∙◌, refl, sym, ap, subst, ⊎_elim, arith}
use Rattle.std.specs.Prelude.{is_some}
use Rattle.std.specs.List.{filter, find, list_any}
use Rattle.std.specs.Str.{bytes_eq}
use Rattle.std.proofs.lemmas.Bool.{cases_Bool, cond-true, cond-false}
use Rattle.std.proofs.lemmas.Slice.Eq.{bytes_eq-Decides}
use Rattle.url.specs.Parts.{Parts}
use Rattle.cookie_words.specs.Moments.{Moment}
use Rattle.cookie_parts.specs.Cookie.{Row}
use Rattle.cookie_parts.specs.Domain.{domain_text}
use Rattle.cookie_parts.specs.declared.cookie_error.CookieError.{CookieError}
use Rattle.cookie_parts.specs.declared.store_action.StoreAction.{StoreAction}
use Rattle.cookie_parts.specs.declared.store_action.StoreAction.TheVariants.{Inserted, ExpiredExisting, UpdatedExisting}
use Rattle.cookie_laws.specs.Acceptance.{accept, admitted, outcome_after_checks, put_action, received, reply_at, store_by}
use Rattle.cookie_laws.specs.Contents.{Contents, HasCreationOrder, is_none_of, evicted, without}
use Rattle.cookie_laws.specs.Related.{domain_keys, domain_rows}
use Rattle.cookie_laws.specs.Rows.{Key, has_key, key_of, add_created, removed, row_of, same_domain, same_domain_equiv, same_key}
use Rattle.cookie_laws.specs.Runs.{Call, rows_after, store_after}
use Rattle.cookie_laws.proofs.AcceptanceOfKeys.{HasKey, admitted-HasKey}
use Rattle.cookie_laws.proofs.CallsOfDomain.{is_in}
use Rattle.cookie_laws.proofs.CountedKeys.{alike-any, pushed-count}
use Rattle.cookie_laws.proofs.Filtered.{none-filter}
use Rattle.cookie_laws.proofs.PreservedByCalls.{store_after-keeps}
use Rattle.cookie_laws.proofs.EvictedKeys.{filter-fewer, own-count, removed-fewer}
use Rattle.cookie_laws.proofs.CreationKeys.{AreCreationKeys, once-none, once-removed, once-store_by, once_from_made}
use Rattle.cookie_laws.proofs.StoresOfKeys.{add_created-other}

-- a reply shows whether there was a row of the key

-- a new row is inserted
put_action-new : (row : Option Row) → put_action row ≡ Inserted → is_some row ≡ false
put_action-new None is = refl
put_action-new (Some row) is = absurd (grind (arith, is))

-- a row that there was is updated
put_action-old : (row : Option Row) → put_action row ≡ UpdatedExisting → is_some row ≡ true
put_action-old None is = absurd (grind (arith, is))
put_action-old (Some row) is = refl

-- so if the reply is `Inserted`, there was no row
pub reply_at-new : (row : Option Row) (cookie : Row) (url : Parts) (now : Moment)
    → reply_at row cookie url now ≡ Ok Inserted → is_some row ≡ false
reply_at-new None cookie url now is = refl
reply_at-new (Some row) cookie url now is = grind (arith, is, put_action-new (Some row))

-- and if it is `UpdatedExisting`, there was one
reply_at-old : (row : Option Row) (cookie : Row) (url : Parts) (now : Moment)
    → reply_at row cookie url now ≡ Ok UpdatedExisting → is_some row ≡ true
reply_at-old None cookie url now is = grind (arith, is, put_action-old None)
reply_at-old (Some row) cookie url now is = refl

-- if an item passes, there is a first one
pub found-any : {T : Type 0} (test : T → Bool) (xs : List T) → is_some (find test xs) ≡ list_any test xs
found-any test [] = refl
found-any test (x ∷ xs) = grind (arith, found-any test xs)

-- the key is in the creation order if it has a row
pub row-created : (key : Key) (store : Contents) → AreCreationKeys store.rows store.created
    → is_some (row_of key store.rows) ≡ list_any (same_key key) store.created
row-created key store once = found-any (has_key key) store.rows ∙ alike-any store.rows store.created once.0 (same_key key)

-- how many keys a store has of a domain

-- of this key's domain
abbrev own_keys : Key → Contents → ℕ
own_keys key store = length (filter (same_domain key) store.created)

-- with a limit greater than zero
module _ (limit : ℕ) (some : 0 < limit) where
  -- after a new key there is one more of its domain than before, but at most the limit
  inserted-count : (store : Contents) (cookie : Row) (now : Moment) → store.limit ≡ Some limit → AreCreationKeys store.rows store.created
      → list_any (same_key (key_of cookie)) store.created ≡ false
      → own_keys (key_of cookie) (store_by (Ok Inserted) store cookie now) ≡ min limit (own_keys (key_of cookie) store + 1)
  inserted-count store cookie now under once new =
      let key = key_of cookie in
      let rest = without (evicted store now key) store in
      let still_new : list_any (same_key key) rest.created ≡ false =
      none-filter (same_key key) (is_none_of (evicted store now key)) store.created new in
      let stay = own-count limit store now key under once.1 in
      let pushed : length (filter (same_domain key) (add_created rest.created key)) ≡ own_keys key rest + 1 =
      ap (λ keys. length (filter (same_domain key) keys)) (cond-false (list_any (same_key key) rest.created) rest.created _ still_new)
      ∙ pushed-count (same_domain key) rest.created key (same_domain_equiv.refl key) in
      omega (arith, pushed, stay, some)

  -- the keys are counted as the rows, the limit is this one, and of the domain there are at most so many keys
  abbrev Within : List ℕ → ℕ → Contents → Type 0
  Within domain most store =
      AreCreationKeys store.rows store.created × (store.limit ≡ Some limit) × (length (domain_keys domain store.created) ≤ most)

  -- of a domain no more than so many, which are no fewer than the limit
  module _ (domain : List ℕ) (most : ℕ) (above : limit ≤ most) where
    -- there are no more after a new key
    inserted-within : (store : Contents) (cookie : Row) (now : Moment) → Within domain most store
        → list_any (same_key (key_of cookie)) store.created ≡ false
        → length (domain_keys domain (store_by (Ok Inserted) store cookie now).created) ≤ most
    inserted-within store cookie now within new =
        let key = key_of cookie in
        let after = store_by (Ok Inserted) store cookie now in
        let keys = evicted store now key in
        ⊎_elim (λ own.
        let one : key.domain ≡ domain = sym ((bytes_eq-Decides domain key.domain).0 own) in
        let exact = inserted-count store cookie now within.1 within.0 new in
        let before : own_keys key store ≤ most = subst (λ d. length (domain_keys d store.created) ≤ most) (sym one) within.2 in
        let all : own_keys key after ≤ most = omega (arith, exact, before, above) in
        subst (λ d. length (domain_keys d after.created) ≤ most) one all)
        (λ other.
        let same = ap length (add_created-other (is_in domain) (without keys store).created key other) in
        let fewer = filter-fewer (is_in domain) (is_none_of keys) store.created in
        omega (arith, same, fewer, within.2))
        (cases_Bool (bytes_eq domain key.domain))

    -- after a reply, which shows whether the key is new
    store_by-within : (reply : Result StoreAction CookieError) (store : Contents) (cookie : Row) (now : Moment)
        → (reply ≡ Ok Inserted → list_any (same_key (key_of cookie)) store.created ≡ false)
        → (reply ≡ Ok UpdatedExisting → list_any (same_key (key_of cookie)) store.created ≡ true)
        → Within domain most store → Within domain most (store_by reply store cookie now)
    store_by-within (Ok Inserted) store cookie now new old within =
        let once = once-store_by (Ok Inserted) store cookie now within.0 in
        (once, within.1, inserted-within store cookie now within (new refl))
    store_by-within (Ok UpdatedExisting) store cookie now new old within =
        let once = once-store_by (Ok UpdatedExisting) store cookie now within.0 in
        let same : add_created store.created (key_of cookie) ≡ store.created =
        cond-true (list_any (same_key (key_of cookie)) store.created) store.created _ (old refl) in
        (once, within.1, subst (λ keys. length (domain_keys domain keys) ≤ most) (sym same) within.2)
    store_by-within (Ok ExpiredExisting) store cookie now new old within =
        (once-store_by (Ok ExpiredExisting) store cookie now within.0, within.1, within.2)
    store_by-within (Err rejection) store cookie now new old within = within

    -- after the outcome of an admitted cookie
    expected-within : (store : Contents) (cookie : Row) (url : Parts) (now : Moment) → Within domain most store
        → Within domain most (store_by (reply_at (row_of (key_of cookie) store.rows) cookie url now) store cookie now)
    expected-within store cookie url now within =
        let row = row_of (key_of cookie) store.rows in
        let known = row-created (key_of cookie) store within.0 in
        store_by-within (reply_at row cookie url now) store cookie now
        (λ is. sym known ∙ reply_at-new row cookie url now is)
        (λ is. sym known ∙ reply_at-old row cookie url now is)
        within

    -- after a row is removed
    removed-within : (key : Key) (store : Contents) → Within domain most store
        → Within domain most (record store { rows = removed (has_key key) store.rows; created = removed (same_key key) store.created })
    removed-within key store within =
        let fewer = removed-fewer (is_in domain) (same_key key) store.created in
        (once-removed key store within.0, within.1, omega (arith, fewer, within.2))

    -- and after calls
    within-after : (calls : List Call) (store : Contents) → Within domain most store → Within domain most (store_after calls store)
    within-after =
        store_after-keeps (Within domain most) expected-within removed-within (λ store within. (once-none, within.1, omega arith))

-- how many rows a store has of a domain
abbrev domain_count : List ℕ → Contents → ℕ
domain_count domain store = length (domain_rows domain store.rows)

-- as many as keys
rows-as-keys : (domain : List ℕ) (store : Contents) → AreCreationKeys store.rows store.created
    → domain_count domain store ≡ length (domain_keys domain store.created)
rows-as-keys domain store once = once.0 (is_in domain)

-- no more after calls than the limit, or than before
pub limited_rows : (domain : List ℕ) (calls : List Call) (store : Contents) (limit : ℕ)
    → HasCreationOrder store → store.limit ≡ Some limit → 0 < limit
    → length (domain_rows domain (rows_after calls store)) ≤ max limit (length (domain_rows domain store.rows))
limited_rows domain calls store limit has under some =
    let once = once_from_made store has in
    let most = max limit (domain_count domain store) in
    let before = rows-as-keys domain store once in
    let starts : length (domain_keys domain store.created) ≤ most = omega (arith, before) in
    let within = within-after limit some domain most (omega arith) calls store (once, under, starts) in
    let after = rows-as-keys domain (store_after calls store) within.0 in
    omega (arith, after, within.2)

-- after a cookie was inserted one more than before, or as many as the limit if that is fewer
abbrev Fills : ℕ → List ℕ → Contents → Contents → Type 0
Fills limit domain before after = domain_count domain after ≡ min limit (domain_count domain before + 1)

-- an admitted cookie of the key, or an error
outcome_after_checks-fills : (key : Key) (cookie_result : Result Row CookieError) (url : Parts) (now : Moment) (store : Contents) (limit : ℕ) → HasKey key cookie_result
    → AreCreationKeys store.rows store.created → store.limit ≡ Some limit → 0 < limit → (outcome_after_checks cookie_result url now store).reply ≡ Ok Inserted
    → Fills limit key.domain store (outcome_after_checks cookie_result url now store).store
outcome_after_checks-fills key (Err rejection) url now store limit same once under some is = absurd (grind (arith, is))
outcome_after_checks-fills key (Ok cookie) url now store limit same once under some is =
    let own = key_of cookie in
    let row = row_of own store.rows in
    let new = sym (row-created own store once) ∙ reply_at-new row cookie url now is in
    let before = rows-as-keys own.domain store once in
    let after = rows-as-keys own.domain (store_by (Ok Inserted) store cookie now) (once-store_by (Ok Inserted) store cookie now once) in
    let fills : Fills limit own.domain store (store_by (Ok Inserted) store cookie now) =
    after ∙ inserted-count limit some store cookie now under once new ∙ ap (λ n. min limit (n + 1)) (sym before) in
    subst (λ k. Fills limit k.domain store (outcome_after_checks (Ok cookie) url now store).store) same
    (subst (λ reply. Fills limit own.domain store (store_by reply store cookie now)) (sym is) fills)

-- any received cookie
accept-fills : (store : Contents) (cookie : Row) (url : Parts) (now : Moment) (limit : ℕ)
    → HasCreationOrder store → store.limit ≡ Some limit → 0 < limit → (accept store cookie url now).reply ≡ Ok Inserted
    → Fills limit (domain_text cookie.domain) store (accept store cookie url now).store
unfolding accept
accept-fills store cookie url now limit has under some is =
    outcome_after_checks-fills (key_of cookie) (admitted store.suffixes url cookie) url now store limit (admitted-HasKey store.suffixes url cookie)
    (once_from_made store has) under some is

-- and a received cookie, or the error from making it
pub inserted_rows : (store : Contents) (cookie_result : Result Row CookieError) (url : Parts) (now : Moment) (cookie : Row) (limit : ℕ)
    → HasCreationOrder store → store.limit ≡ Some limit → 0 < limit → cookie_result ≡ Ok cookie → (received store cookie_result url now).reply ≡ Ok Inserted
    → length (domain_rows (domain_text cookie.domain) (received store cookie_result url now).store.rows)
    ≡ min limit (length (domain_rows (domain_text cookie.domain) store.rows) + 1)
inserted_rows store cookie_result url now cookie limit has under some is inserted =
    subst (λ m. Fills limit (domain_text cookie.domain) store (received store m url now).store) (sym is)
    (accept-fills store cookie url now limit has under some (sym (ap (λ m. (received store m url now).reply) is) ∙ inserted))
