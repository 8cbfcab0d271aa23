-- What calls on a store without a limit do to the keys in creation order and to the rows of other keys.
use Rattle.std.proofs.Common.{◌≡◌, Bool, true, false, cond, not, ◌||◌, List, [], ◌∷◌, ◌++◌, None, Result, Ok, Err, ◌⊎◌, inl, inr, ⊎_elim, refl, sym, ap, subst, ◌∙◌, true≢false}
use Rattle.std.specs.Prelude.{is_some}
use Rattle.std.specs.List.{filter, list_any}
use Rattle.std.proofs.lemmas.Bool.{cases_Bool, cond-true, cond-false, cond_both, and_parts, not-true, or_from, or_parts}
use Rattle.url.specs.Parts.{Parts}
use Rattle.cookie_words.specs.Moments.{Moment}
use Rattle.cookie_parts.specs.Cookie.{Row}
use Rattle.cookie_parts.specs.declared.cookie_error.CookieError.{CookieError}
use Rattle.cookie_parts.specs.declared.store_action.StoreAction.{StoreAction}
use Rattle.cookie_parts.specs.declared.store_action.StoreAction.TheVariants.{Inserted, ExpiredExisting, UpdatedExisting}
use Rattle.cookie_laws.specs.Acceptance.{accept, admitted, outcome_after_checks, reply_at, store_by}
use Rattle.cookie_laws.specs.Contents.{Contents, HasCreationOrder, evicted, is_none_of, over_limit}
use Rattle.cookie_laws.specs.Rows.{Key, add_created, differ, key_of, removed, row_of, same_domain, same_key, same_key-true, same_key_equiv}
use Rattle.cookie_laws.specs.Runs.{Insert, Remove, step}
use Rattle.cookie_laws.proofs.AcceptanceOfKeys.{HasKey, admitted-HasKey}
use Rattle.cookie_laws.proofs.CreationKeys.{made_after, once_from_made}
use Rattle.cookie_laws.proofs.Filtered.{filter-all}
use Rattle.cookie_laws.proofs.LimitedRows.{row-created}
use Rattle.cookie_laws.proofs.RowsOfKeys.{removed-other, row_of-passing}
use Rattle.cookie_laws.proofs.SingleInsertions.{accept-other_key}
use Rattle.cookie_durable.specs.Numbering.{Touches}

-- lists of keys

-- without a key that is not there, nothing changes
pub removed-absent : (key : Key) (keys : List Key) → list_any (same_key key) keys ≡ false → removed (same_key key) keys ≡ keys
removed-absent key [] none = refl
removed-absent key (k ∷ keys) none =
    let apart = or_parts (same_key key k) (list_any (same_key key) keys) none in
    cond-false (same_key key k) keys (k ∷ removed (same_key key) keys) apart.0 ∙ ap (λ ks. k ∷ ks) (removed-absent key keys apart.1)

-- a key that is removed is not there any more
any-removed : (key : Key) (keys : List Key) → differ same_key keys ≡ true → list_any (same_key key) (removed (same_key key) keys) ≡ false
any-removed key [] d = refl
any-removed key (k ∷ keys) d =
    let parts = and_parts (not (list_any (same_key k) keys)) (differ same_key keys) d in
    ⊎_elim
    (λ here.
    ap (list_any (same_key key)) (cond-true (same_key key k) keys (k ∷ removed (same_key key) keys) here)
    ∙ ap (λ (x : Key). list_any (same_key x) keys) (same_key-true key k here) ∙ not-true (list_any (same_key k) keys) parts.0)
    (λ away.
    ap (list_any (same_key key)) (cond-false (same_key key k) keys (k ∷ removed (same_key key) keys) away)
    ∙ or_from (same_key key k) (list_any (same_key key) (removed (same_key key) keys)) away (any-removed key keys parts.1))
    (cases_Bool (same_key key k))

-- a key that is added at the end is there
any-push : (key : Key) (keys : List Key) → list_any (same_key key) (keys ++ key ∷ []) ≡ true
any-push key [] = cond_push (same_key_equiv.refl key)
  where
    cond_push : same_key key key ≡ true → list_any (same_key key) (key ∷ []) ≡ true
    cond_push here = rw here refl
any-push key (k ∷ keys) = some_more (same_key key k) (any-push key keys)
  where
    some_more : (b : Bool) → list_any (same_key key) (keys ++ key ∷ []) ≡ true → (b || list_any (same_key key) (keys ++ key ∷ [])) ≡ true
    some_more true more = refl
    some_more false more = more

-- a key that is stored is there
any-add_created : (key : Key) (created : List Key) → list_any (same_key key) (add_created created key) ≡ true
any-add_created key created =
    cond_both (list_any (same_key key) created) created (created ++ key ∷ []) (λ keys. list_any (same_key key) keys ≡ true)
    (λ there. there) (λ _. any-push key created)

-- the keys in creation order, by whether the key has a row afterwards
pub created_by : (key : Key) (created new_created : List Key) (b : Bool) → b ≡ list_any (same_key key) new_created
    → (new_created ≡ add_created created key) ⊎ (new_created ≡ created)
    → new_created ≡ cond b (add_created created key) (removed (same_key key) created)
created_by key created new_created b is (inl added) =
    added ∙ sym (cond-true b (add_created created key) (removed (same_key key) created) (is ∙ ap (list_any (same_key key)) added ∙ any-add_created key created))
created_by key created new_created b is (inr same) =
    let there = list_any (same_key key) created in
    ⊎_elim
    (λ old.
    same ∙ sym (cond-true there created (created ++ key ∷ []) old)
    ∙ sym (cond-true b (add_created created key) (removed (same_key key) created) (is ∙ ap (list_any (same_key key)) same ∙ old)))
    (λ new.
    same ∙ sym (removed-absent key created new)
    ∙ sym (cond-false b (add_created created key) (removed (same_key key) created) (is ∙ ap (list_any (same_key key)) same ∙ new)))
    (cases_Bool there)

-- insertions

-- the limit stays, and the key is stored or the keys stay
abbrev Keeps : Key → Contents → Contents → Type 0
Keeps key old new = (new.limit ≡ old.limit) × ((new.created ≡ add_created old.created key) ⊎ (new.created ≡ old.created))

-- without a limit nothing is evicted
none_evicted : (store : Contents) (now : Moment) (key : Key) → store.limit ≡ None → evicted store now key ≡ []
none_evicted store now key none = ap (λ l. over_limit l now store.rows (filter (same_domain key) store.created)) none

store_by-keeps : (reply : Result StoreAction CookieError) (store : Contents) (cookie : Row) (now : Moment) → store.limit ≡ None
    → Keeps (key_of cookie) store (store_by reply store cookie now)
store_by-keeps (Ok Inserted) store cookie now none = (
  refl,
  inl (ap (λ keys. add_created (filter (is_none_of keys) store.created) (key_of cookie)) (none_evicted store now (key_of cookie) none)
      ∙ ap (λ created. add_created created (key_of cookie)) (filter-all store.created)),
)
store_by-keeps (Ok UpdatedExisting) store cookie now none = (refl, inl refl)
store_by-keeps (Ok ExpiredExisting) store cookie now none = (refl, inr refl)
store_by-keeps (Err rejection) store cookie now none = (refl, inr refl)

outcome_after_checks-keeps : (key : Key) (cookie_result : Result Row CookieError) (url : Parts) (now : Moment) (store : Contents) → HasKey key cookie_result
    → store.limit ≡ None → Keeps key store (outcome_after_checks cookie_result url now store).store
outcome_after_checks-keeps key (Err rejection) url now store same none = (refl, inr refl)
outcome_after_checks-keeps key (Ok cookie) url now store same none =
    let reply = reply_at (row_of (key_of cookie) store.rows) cookie url now in
    subst (λ (k : Key). Keeps k store (store_by reply store cookie now)) same (store_by-keeps reply store cookie now none)

accept-keeps : (store : Contents) (cookie : Row) (url : Parts) (now : Moment) → store.limit ≡ None
    → Keeps (key_of cookie) store (accept store cookie url now).store
unfolding accept
accept-keeps store cookie url now none =
    outcome_after_checks-keeps (key_of cookie) (admitted store.suffixes url cookie) url now store (admitted-HasKey store.suffixes url cookie) none

accept-others : (store : Contents) (cookie : Row) (url : Parts) (now : Moment) → store.limit ≡ None → (other : Key) → same_key (key_of cookie) other ≡ false
    → row_of other (accept store cookie url now).store.rows ≡ row_of other store.rows
accept-others store cookie url now none other away =
    let nothing : list_any (same_key other) (evicted store now (key_of cookie)) ≡ false =
    ap (list_any (same_key other)) (none_evicted store now (key_of cookie) none) in
    ⊎_elim (λ stays. stays) (λ leaves. absurd (true≢false (sym leaves.1 ∙ nothing)))
    (accept-other_key store cookie url now other (same_key_equiv.symm other (key_of cookie) ∙ away))

-- an insertion touches the key of its cookie
pub accept-touches : (store : Contents) (cookie : Row) (url : Parts) (now : Moment) → store.limit ≡ None → HasCreationOrder store
    → Touches (key_of cookie) store (accept store cookie url now).store
accept-touches store cookie url now none has =
    let new = (accept store cookie url now).store in
    let keeps = accept-keeps store cookie url now none in
    let order : HasCreationOrder new = made_after (Insert cookie url now ∷ []) store has in
    record {
      order = order;
      unlimited = keeps.0 ∙ none;
      others = accept-others store cookie url now none;
      created = created_by (key_of cookie) store.created new.created (is_some (row_of (key_of cookie) new.rows))
          (row-created (key_of cookie) new (once_from_made new order)) keeps.1;
    }

-- a removal touches its key
pub remove-touches : (store : Contents) (key : Key) → store.limit ≡ None → HasCreationOrder store
    → Touches key store (step (Remove key) store).store
remove-touches store key none has =
    let new = (step (Remove key) store).store in
    let order : HasCreationOrder new = made_after (Remove key ∷ []) store has in
    let gone : is_some (row_of key new.rows) ≡ false = row-created key new (once_from_made new order) ∙ any-removed key store.created has.1 in
    record {
      order = order;
      unlimited = none;
      others = λ other away.
          let test = same_key other in
          let here : test other ≡ true = same_key_equiv.refl other in
          sym (row_of-passing test other new.rows here)
          ∙ ap (row_of other) (removed-other test key store.rows (same_key_equiv.symm other key ∙ away))
          ∙ row_of-passing test other store.rows here;
      created = sym (cond-false (is_some (row_of key new.rows)) (add_created store.created key) (removed (same_key key) store.created) gone);
    }
