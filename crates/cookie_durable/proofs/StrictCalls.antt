-- What a call under the rules of browsers touches: as the plain call that it becomes, or nothing.
use Rattle.std.proofs.Common.{◌≡◌, ℕ, ℤ, List, [], ◌∷◌, ◌++◌, Option, Some, None, Result, Ok, Err, ◌⊎◌, inl, inr, ⊎_elim, refl, sym, ap, subst, ◌∙◌}
use Rattle.std.specs.Prelude.{filter, is_some, IfSome}
use Rattle.std.specs.Result.{result_map_both}
use Rattle.url.specs.Parts.{Parts}
use Rattle.sqlite_value.specs.Order.{Row as TableRow}
use Rattle.cookie_words.specs.Moments.{Moment}
use Rattle.cookie_parts.specs.Cookie.{Row, and_then}
use Rattle.cookie_parts.specs.declared.cookie_error.CookieError.{CookieError}
use Rattle.cookie_parts.specs.declared.store_action.StoreAction.{StoreAction}
use Rattle.cookie_parts.specs.declared.store_action.StoreAction.TheVariants.{Inserted, ExpiredExisting, UpdatedExisting}
use Rattle.cookie_laws.specs.Acceptance.{accept}
use Rattle.cookie_laws.specs.Contents.{Contents, HasCreationOrder}
use Rattle.cookie_laws.specs.Rows.{Key, key_of, row_of, same_domain}
use Rattle.cookie_laws.specs.Runs.{Call, Insert, Set, step, store_after}
use Rattle.cookie_laws.specs.SecureLast.{evicted_by, over_limit_secure_last, removals}
use Rattle.cookie_laws.proofs.CreationKeys.{once_from_made}
use Rattle.cookie_laws.proofs.LimitedRows.{row-created}
use Rattle.cookie_strict.specs.HeaderValue.{draft_cookie, header_error, pair_error, strict_cookie}
use Rattle.cookie_strict.specs.Lifetime.{limited_cookie}
use Rattle.cookie_strict.specs.StrictRules.{broken_rule}
use Rattle.cookie_strict.specs.StrictRuns.{allowed_insertion, if_accepted, plain_calls, response_call, response_error, site_reply, store_after_call, strict_call, strict_insertion, unless_broken, unless_error}
use Rattle.cookie_strict.specs.declared.context.Context.{Context}
use Rattle.cookie_strict.specs.declared.error.StrictError.{StrictError}
use Rattle.cookie_strict.specs.declared.error.StrictError.TheVariants.{Cookie}
use Rattle.cookie_durable.specs.Numbering.{Ids, IsNumbered, Names, Touches, key_in}
use Rattle.cookie_durable.proofs.TouchedKeys.{accept-touches, created_by}

-- a call that changes nothing touches any key
untouched : (store : Contents) (key : Key) → store.limit ≡ None → HasCreationOrder store → Touches key store store
untouched store key none has = record {
  order = has;
  unlimited = none;
  others = λ other away. refl;
  created = created_by key store.created store.created (is_some (row_of key store.rows)) (row-created key store (once_from_made store has)) (inr refl);
}

-- without a limit nothing is evicted
none_evicted : (reply : Result StoreAction CookieError) (store : Contents) (now : Moment) (key : Key) → store.limit ≡ None
    → evicted_by reply store now key ≡ []
none_evicted (Ok Inserted) store now key none = ap (λ l. over_limit_secure_last l now store.rows (filter (same_domain key) store.created)) none
none_evicted (Ok UpdatedExisting) store now key none = refl
none_evicted (Ok ExpiredExisting) store now key none = refl
none_evicted (Err rejection) store now key none = refl

-- so an insertion is the plain one alone
inserted_alone : (store : Contents) (cookie : Row) (url : Parts) (now : Moment) → store.limit ≡ None
    → store_after (plain_calls (Insert cookie url now) store) store ≡ (step (Insert cookie url now) store).store
inserted_alone store cookie url now none =
    ap (λ keys. store_after (removals keys ++ Insert cookie url now ∷ []) store)
    (none_evicted (accept store cookie url now).reply store now (key_of cookie) none)

-- what the rules make of a header value: an error, or what the draft reads
read_or_not : (text : List ℕ) (url : Parts) (now : Moment)
    → (strict_cookie text url now ≡ result_map_both (λ cookie. cookie) Cookie (draft_cookie text url now))
    ⊎ ((error : StrictError) × (strict_cookie text url now ≡ Err error))
read_or_not text url now = by_error (header_error text) refl
  where
    by_error : (found : Option StrictError) → header_error text ≡ found
        → (strict_cookie text url now ≡ result_map_both (λ cookie. cookie) Cookie (draft_cookie text url now))
        ⊎ ((error : StrictError) × (strict_cookie text url now ≡ Err error))
    by_error None is = inl (rw (strict_cookie, is) refl)
    by_error (Some error) is = inr (error, rw (strict_cookie, is) refl)

-- what is not a cookie by the draft is rejected
unless_rejects : (found : Option StrictError) (error : StrictError) → (first : StrictError) × (unless_error found (Err error) ≡ Err first)
unless_rejects None error = (error, refl)
unless_rejects (Some first) error = (first, refl)

pub not_read : (context : Context) (text : List ℕ) (url : Parts) (now : Moment) (store : Contents) (rejection : CookieError)
    → draft_cookie text url now ≡ Err rejection → (error : StrictError) × (response_call context text url now store ≡ Err error)
not_read context text url now store rejection unread =
    let after : Result Row StrictError → Result Call StrictError = λ made.
    unless_error (response_error context text) (and_then made (λ cookie. strict_insertion cookie url now store)) in
    ⊎_elim
    (λ is.
    let found = unless_rejects (response_error context text) (Cookie rejection) in
    (found.0, ap after (is ∙ ap (result_map_both (λ cookie. cookie) Cookie) unread) ∙ found.1))
    (λ failed.
    let found = unless_rejects (response_error context text) failed.0 in
    (found.0, ap after failed.1 ∙ found.1))
    (read_or_not text url now)

-- a call by a cookie, on a store without a limit
module _ (before : Contents) (cookie : Row) (url : Parts) (now : Moment) (none : before.limit ≡ None) (has : HasCreationOrder before) where
  abbrev TouchesAfter : Result Call StrictError → Type 0
  TouchesAfter allowed = Touches (key_of cookie) before (store_after_call allowed before)

  rejected_touches : (error : StrictError) → TouchesAfter (Err error)
  rejected_touches error = untouched before (key_of cookie) none has

  unless_broken-touches : (broken : Option StrictError) → TouchesAfter (unless_broken broken (Insert (limited_cookie now cookie) url now))
  unless_broken-touches None =
      subst (λ (s : Contents). Touches (key_of cookie) before s) (sym (inserted_alone before (limited_cookie now cookie) url now none))
      (accept-touches before (limited_cookie now cookie) url now none has)
  unless_broken-touches (Some error) = rejected_touches error

  if_accepted-touches : (reply : Result StoreAction CookieError) (broken : Option StrictError)
      → TouchesAfter (if_accepted reply broken (Insert (limited_cookie now cookie) url now))
  if_accepted-touches (Ok action) broken = unless_broken-touches broken
  if_accepted-touches (Err error) broken = rejected_touches (Cookie error)

  unless_error-touches : (found : Option StrictError) (allowed : Result Call StrictError) → TouchesAfter allowed → TouchesAfter (unless_error found allowed)
  unless_error-touches None allowed touches = touches
  unless_error-touches (Some error) allowed touches = rejected_touches error

  insertion_touches : TouchesAfter (strict_insertion cookie url now before)
  insertion_touches =
      let limited = limited_cookie now cookie in
      unless_error-touches (pair_error cookie.raw) (allowed_insertion limited url now before)
      (if_accepted-touches (site_reply limited url now before) (broken_rule limited url now before))

  -- a header value that the draft reads as this cookie
  response_touches : (context : Context) (text : List ℕ) → draft_cookie text url now ≡ Ok cookie
      → TouchesAfter (response_call context text url now before)
  response_touches context text read =
      let made : Result Row StrictError → Type 0 = λ m. TouchesAfter (and_then m (λ c. strict_insertion c url now before)) in
      unless_error-touches (response_error context text) (strict_call (Set text url now) before)
      (⊎_elim
      (λ is. subst made (sym (is ∙ ap (result_map_both (λ c. c) Cookie) read)) insertion_touches)
      (λ failed. subst made (sym failed.1) (rejected_touches failed.0))
      (read_or_not text url now))

-- calls on a store whose cookies are the rows of a table
pub insertion_on_numbered : (before store : Contents) (cookie : Row) (url : Parts) (now : Moment) (names : Names) (ids : Ids) (next : ℤ) (rows : List TableRow)
    → key_in names ≡ key_of cookie → store ≡ store_after_call (strict_insertion cookie url now before) before → IsNumbered before ids next rows
    → Touches (key_in names) before store
insertion_on_numbered before store cookie url now names ids next rows same is numbered =
    subst (λ (s : Contents). Touches (key_in names) before s) (sym is)
    (subst (λ (k : Key). Touches k before (store_after_call (strict_insertion cookie url now before) before)) (sym same)
    (insertion_touches before cookie url now numbered.unlimited numbered.order))

pub response_on_numbered : (before store : Contents) (context : Context) (text : List ℕ) (cookie : Row) (url : Parts) (now : Moment) (names : Names) (ids : Ids)
    (next : ℤ) (rows : List TableRow)
    → draft_cookie text url now ≡ Ok cookie → key_in names ≡ key_of cookie
    → store ≡ store_after_call (response_call context text url now before) before → IsNumbered before ids next rows → Touches (key_in names) before store
response_on_numbered before store context text cookie url now names ids next rows read same is numbered =
    subst (λ (s : Contents). Touches (key_in names) before s) (sym is)
    (subst (λ (k : Key). Touches k before (store_after_call (response_call context text url now before) before)) (sym same)
    (response_touches before cookie url now numbered.unlimited numbered.order context text read))

-- what holds of the value of an option
pub when_some : {A : Type 0} (found : Option A) (value : A) (P : A → Type 0) → found ≡ Some value → IfSome found P → P value
when_some found value P is holds = subst (λ o. IfSome o P) is holds
