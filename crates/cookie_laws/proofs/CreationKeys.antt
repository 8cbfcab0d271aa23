-- The keys in creation order are those of the rows, and differ, after each call.
use Rattle.std.proofs.Common.{◌≡◌, ℕ, Bool, true, List, [], ◌∷◌, ◌++◌, map, Option, Result, Ok, Err, refl}
use Rattle.std.specs.List.{list_any}
use Rattle.std.proofs.lemmas.Bool.{cond_both}
use Rattle.cookie_words.specs.Moments.{Moment}
use Rattle.cookie_psl.specs.Rules.{RuleList}
use Rattle.cookie_parts.specs.Cookie.{Row}
use Rattle.cookie_parts.specs.declared.cookie_error.CookieError.{CookieError}
use Rattle.cookie_parts.specs.declared.store_action.StoreAction.{StoreAction}
use Rattle.cookie_parts.specs.declared.store_action.StoreAction.TheVariants.{Inserted, ExpiredExisting, UpdatedExisting}
use Rattle.cookie_laws.specs.Acceptance.{reply_at, store_by}
use Rattle.cookie_laws.specs.Contents.{Contents, HasCreationOrder, contents_of, is_none_of, evicted, without}
use Rattle.cookie_laws.specs.Rows.{Key, built, differ, has_key, included, key_of, add_created, add_all_created, put, put_all, removed, row_of, same_key, same_key_equiv}
use Rattle.cookie_laws.specs.Runs.{Call, store_after}
use Rattle.cookie_laws.proofs.CountedKeys.{CountAlike, alike-expired_row, alike-put, alike-removed, alike-stays}
use Rattle.cookie_laws.proofs.DifferentKeys.{differ-filter, differ-pushed, differ-removed}
use Rattle.cookie_laws.proofs.PreservedByCalls.{store_after-keeps}
use Rattle.cookie_laws.proofs.SameCounts.{alike_from_permutation, permutation_from_alike}

-- each test passes as many of the rows as of the keys, and the keys differ
abbrev pub AreCreationKeys : List Row → List Key → Type 0
AreCreationKeys rows created = CountAlike rows created × (differ same_key created ≡ true)

-- keys still differ after one is added
differ-add_created : (created : List Key) (key : Key) → differ same_key created ≡ true → differ same_key (add_created created key) ≡ true
differ-add_created created key d =
    cond_both (list_any (same_key key) created) created (created ++ key ∷ []) (λ keys. differ same_key keys ≡ true)
    (λ _. d)
    (λ new. differ-pushed same_key same_key_equiv.symm created key new d)

-- a cookie is stored
once-put : (rows : List Row) (created : List Key) (cookie : Row) → AreCreationKeys rows created → AreCreationKeys (put rows cookie) (add_created created (key_of cookie))
once-put rows created cookie once = (alike-put rows created once.0 cookie, differ-add_created created (key_of cookie) once.1)

-- rows are evicted
once-without : (keys : List Key) (store : Contents) → AreCreationKeys store.rows store.created
    → AreCreationKeys (without keys store).rows (without keys store).created
once-without keys store once =
    (alike-stays store.rows store.created once.0 (is_none_of keys), differ-filter same_key (is_none_of keys) store.created once.1)

-- the row of a key is removed
pub once-removed : (key : Key) (store : Contents) → AreCreationKeys store.rows store.created
    → AreCreationKeys (removed (has_key key) store.rows) (removed (same_key key) store.created)
once-removed key store once =
    (alike-removed store.rows store.created once.0 key, differ-removed same_key (same_key key) store.created once.1)

-- the store after a reply
pub once-store_by : (reply : Result StoreAction CookieError) (store : Contents) (cookie : Row) (now : Moment)
    → AreCreationKeys store.rows store.created → AreCreationKeys (store_by reply store cookie now).rows (store_by reply store cookie now).created
once-store_by (Ok Inserted) store cookie now once =
    let rest = without (evicted store now (key_of cookie)) store in
    once-put rest.rows rest.created cookie (once-without (evicted store now (key_of cookie)) store once)
once-store_by (Ok UpdatedExisting) store cookie now once = once-put store.rows store.created cookie once
once-store_by (Ok ExpiredExisting) store cookie now once = (alike-expired_row store.rows store.created once.0 (key_of cookie), once.1)
once-store_by (Err rejection) store cookie now once = once

-- no rows and no keys
pub once-none : AreCreationKeys [] []
once-none = (λ _. refl, refl)

-- cookies are stored, one after the other
once-put_all : (rows : List Row) (created : List Key) (cookies : List Row) → AreCreationKeys rows created
    → AreCreationKeys (put_all rows cookies) (add_all_created created (map key_of cookies))
once-put_all rows created [] once = once
once-put_all rows created (cookie ∷ cookies) once =
    once-put_all (put rows cookie) (add_created created (key_of cookie)) cookies (once-put rows created cookie once)

-- the counts agree if the keys are those of the rows
pub once_from_made : (store : Contents) → HasCreationOrder store → AreCreationKeys store.rows store.created
once_from_made store has = (alike_from_permutation store.rows store.created has.0, has.1)

-- and back
made_from_once : (store : Contents) → AreCreationKeys store.rows store.created → HasCreationOrder store
made_from_once store once = (permutation_from_alike store.rows store.created once.0, once.1)

-- after calls, the keys in creation order are still those of the rows
pub made_after : (calls : List Call) (store : Contents) → HasCreationOrder store → HasCreationOrder (store_after calls store)
made_after calls store has =
    made_from_once (store_after calls store)
    (store_after-keeps (λ after. AreCreationKeys after.rows after.created)
    (λ before cookie url now. once-store_by (reply_at (row_of (key_of cookie) before.rows) cookie url now) before cookie now)
    once-removed (λ _ _. once-none) calls store (once_from_made store has))

-- so are those of rows that are built from cookies
pub made_built : (include_expired : Bool) (now : Moment) (cookies : List Row) (suffixes : Option RuleList) (limit : Option ℕ)
    → HasCreationOrder (contents_of (built include_expired now cookies) suffixes limit)
made_built include_expired now cookies suffixes limit =
    made_from_once (contents_of (built include_expired now cookies) suffixes limit)
    (once-put_all [] [] (included include_expired now cookies) once-none)
