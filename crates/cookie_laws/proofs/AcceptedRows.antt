-- If P holds of each cookie that a run stores, and of it once expired, P holds of each row after the run.
use Rattle.std.proofs.Common.{◌≡◌, ℕ, zero, suc, Bool, not, ◌&&◌, List, [], ◌∷◌, Some, Result, Ok, Err, inl, inr, refl, ap, subst}
use Rattle.std.specs.List.{list_any, All}
use Rattle.std.proofs.lemmas.Bool.{cond_both}
use Rattle.std.proofs.lemmas.List.Elements.{All-filter, All-nil, All-cons, All-head, All-tail}
use Rattle.url.specs.Parts.{Parts}
use Rattle.cookie_words.specs.Moments.{Moment}
use Rattle.cookie_parts.specs.Cookie.{Row, and_then, cookie_from_header, expired_row}
use Rattle.cookie_parts.specs.declared.cookie_error.CookieError.{CookieError}
use Rattle.cookie_parts.specs.declared.store_action.StoreAction.{StoreAction}
use Rattle.cookie_parts.specs.declared.store_action.StoreAction.TheVariants.{Inserted, ExpiredExisting, UpdatedExisting}
use Rattle.cookie_laws.specs.Contents.{Contents, is_none_of, evicted, without}
use Rattle.cookie_laws.specs.Rows.{key_of, has_key, in_domain, in_group, row_of, after_last, changed, replaced, removed, placed, put}
use Rattle.cookie_laws.specs.Acceptance.{IsPut, accept, admitted, outcome_after_checks, received, reply_at, store_by}
use Rattle.cookie_laws.specs.Confinement.{Accepts, Offers, RepliesStored}
use Rattle.cookie_laws.specs.Runs.{Call, Set, Insert, Remove, Clear, Stored, rows_after, step}

-- what holds of each item of a list that was edited
module _ {T : Type 0} (P : T → Type 0) where
  -- after an item is placed
  All-after_last : (test : T → Bool) (xs : List T) (y : T) → P y → All P xs → All P (after_last test xs y)
  All-after_last test [] y new old = All-cons P y [] new old
  All-after_last test (x ∷ xs) y new old =
      let first = All-head P x xs old in
      let rest = All-tail P x xs old in
      cond_both (test x && not (list_any test xs)) (x ∷ y ∷ xs) (x ∷ after_last test xs y) (All P)
      (λ _. All-cons P x (y ∷ xs) first (All-cons P y xs new rest))
      (λ _. All-cons P x (after_last test xs y) first (All-after_last test xs y new rest))

  -- after an item is changed
  pub All-changed : (test : T → Bool) (change : T → T) → ((x : T) → P x → P (change x)) → (xs : List T) → All P xs → All P (changed test change xs)
  All-changed test change keeps [] old = old
  All-changed test change keeps (x ∷ xs) old =
      let first = All-head P x xs old in
      let rest = All-tail P x xs old in
      cond_both (test x) (change x ∷ xs) (x ∷ changed test change xs) (All P)
      (λ _. All-cons P (change x) xs (keeps x first) rest)
      (λ _. All-cons P x (changed test change xs) first (All-changed test change keeps xs rest))

  -- after an item is removed
  pub All-removed : (test : T → Bool) (xs : List T) → All P xs → All P (removed test xs)
  All-removed test [] old = old
  All-removed test (x ∷ xs) old =
      let rest = All-tail P x xs old in
      cond_both (test x) xs (x ∷ removed test xs) (All P)
      (λ _. rest)
      (λ _. All-cons P x (removed test xs) (All-head P x xs old) (All-removed test xs rest))

-- a result that stores a cookie is reported by its reply
says_put : (reply : Result StoreAction CookieError) → IsPut reply → RepliesStored (Some (Stored reply))
says_put reply (inl is) = inl (ap (λ r. Some (Stored r)) is)
says_put reply (inr is) = inr (ap (λ r. Some (Stored r)) is)

-- no reply changes the list
store_by-suffixes : (reply : Result StoreAction CookieError) (store : Contents) (cookie : Row) (now : Moment) → (store_by reply store cookie now).suffixes ≡ store.suffixes
store_by-suffixes (Ok Inserted) store cookie now = refl
store_by-suffixes (Ok UpdatedExisting) store cookie now = refl
store_by-suffixes (Ok ExpiredExisting) store cookie now = refl
store_by-suffixes (Err rejection) store cookie now = refl

-- so no cookie does
outcome_after_checks-suffixes : (cookie_result : Result Row CookieError) (url : Parts) (now : Moment) (store : Contents) → (outcome_after_checks cookie_result url now store).store.suffixes ≡ store.suffixes
outcome_after_checks-suffixes (Err rejection) url now store = refl
outcome_after_checks-suffixes (Ok cookie) url now store = store_by-suffixes (reply_at (row_of (key_of cookie) store.rows) cookie url now) store cookie now

accept-suffixes : (store : Contents) (cookie : Row) (url : Parts) (now : Moment) → (accept store cookie url now).store.suffixes ≡ store.suffixes
unfolding accept
accept-suffixes store cookie url now = outcome_after_checks-suffixes (admitted store.suffixes url cookie) url now store

received-suffixes : (store : Contents) (cookie_result : Result Row CookieError) (url : Parts) (now : Moment) → (received store cookie_result url now).store.suffixes ≡ store.suffixes
received-suffixes store (Ok cookie) url now = accept-suffixes store cookie url now
received-suffixes store (Err rejection) url now = refl

-- and no call
step-suffixes : (call : Call) (store : Contents) → (step call store).store.suffixes ≡ store.suffixes
step-suffixes (Set text url now) store = received-suffixes store (cookie_from_header text url now) url now
step-suffixes (Insert cookie url now) store = accept-suffixes store cookie url now
step-suffixes (Remove key) store = refl
step-suffixes Clear store = refl

-- a call that stores a cookie does so one position later if another call precedes it
Accepts-later : (call : Call) (calls : List Call) (store : Contents) (place : ℕ) (from : Parts) (cookie : Row)
    → Accepts calls (step call store).store place from cookie → Accepts (call ∷ calls) store (suc place) from cookie
Accepts-later call calls store place from cookie ((at, is, offers), says) =
    ((at, is, subst (λ suffixes. Offers suffixes at from cookie) (step-suffixes call store) offers), says)

-- what holds of a row, and of it once expired
module _ (P : Row → Type 0) (ends : (row : Row) → P row → P (expired_row row)) where
  -- after a new row is placed
  All-placed : (rows : List Row) (cookie : Row) → P cookie → All P rows → All P (placed rows cookie)
  All-placed rows cookie new old =
      let key = key_of cookie in
      cond_both (list_any (in_group key) rows) (after_last (in_group key) rows cookie) (after_last (in_domain key) rows cookie) (All P)
      (λ _. All-after_last P (in_group key) rows cookie new old)
      (λ _. All-after_last P (in_domain key) rows cookie new old)

  -- after a cookie is stored
  pub All-put : (rows : List Row) (cookie : Row) → P cookie → All P rows → All P (put rows cookie)
  All-put rows cookie new old =
      let key = key_of cookie in
      cond_both (list_any (has_key key) rows) (replaced (has_key key) rows cookie) (placed rows cookie) (All P)
      (λ _. All-changed P (has_key key) (λ _. cookie) (λ _ _. new) rows old)
      (λ _. All-placed rows cookie new old)

  -- after a result for a cookie; P holds of the cookie if it is stored
  All-store_by : (reply : Result StoreAction CookieError) (store : Contents) (cookie : Row) (now : Moment) → (IsPut reply → P cookie) → All P store.rows → All P (store_by reply store cookie now).rows
  All-store_by (Ok Inserted) store cookie now new old =
      let rest = without (evicted store now (key_of cookie)) store in
      All-put rest.rows cookie (new (inl refl)) (All-filter (λ row. is_none_of (evicted store now (key_of cookie)) (key_of row)) P store.rows old)
  All-store_by (Ok UpdatedExisting) store cookie now new old = All-put store.rows cookie (new (inr refl)) old
  All-store_by (Ok ExpiredExisting) store cookie now new old = All-changed P (has_key (key_of cookie)) expired_row ends store.rows old
  All-store_by (Err rejection) store cookie now new old = old

  -- after an admitted cookie, or an error
  All-outcome_after_checks : (cookie_result : Result Row CookieError) (url : Parts) (now : Moment) (store : Contents)
      → ((cookie : Row) → cookie_result ≡ Ok cookie → IsPut (outcome_after_checks cookie_result url now store).reply → P cookie) → All P store.rows → All P (outcome_after_checks cookie_result url now store).store.rows
  All-outcome_after_checks (Err rejection) url now store new old = old
  All-outcome_after_checks (Ok cookie) url now store new old =
      All-store_by (reply_at (row_of (key_of cookie) store.rows) cookie url now) store cookie now (new cookie refl) old

  -- after a received cookie
  pub All-accept : (store : Contents) (given : Row) (url : Parts) (now : Moment)
      → ((cookie : Row) → admitted store.suffixes url given ≡ Ok cookie → IsPut (accept store given url now).reply → P cookie)
      → All P store.rows → All P (accept store given url now).store.rows
  unfolding accept
  All-accept store given url now new old = All-outcome_after_checks (admitted store.suffixes url given) url now store new old

  -- after a received cookie, or the error from making it
  All-received : (store : Contents) (cookie_result : Result Row CookieError) (url : Parts) (now : Moment)
      → ((cookie : Row) → and_then cookie_result (admitted store.suffixes url) ≡ Ok cookie → IsPut (received store cookie_result url now).reply → P cookie)
      → All P store.rows → All P (received store cookie_result url now).store.rows
  All-received store (Ok given) url now new old = All-accept store given url now new old
  All-received store (Err rejection) url now new old = old

  -- after a call
  All-step : (call : Call) (store : Contents)
      → ((from : Parts) (cookie : Row) → Offers store.suffixes call from cookie → RepliesStored (Some (step call store).reply) → P cookie)
      → All P store.rows → All P (step call store).store.rows
  All-step (Set text url now) store new old =
      let cookie_result = cookie_from_header text url now in
      All-received store cookie_result url now
      (λ cookie enters is_put. new url cookie (refl, enters) (says_put (received store cookie_result url now).reply is_put))
      old
  All-step (Insert given url now) store new old =
      All-accept store given url now
      (λ cookie enters is_put. new url cookie (refl, enters) (says_put (accept store given url now).reply is_put))
      old
  All-step (Remove key) store new old = All-removed P (has_key key) store.rows old
  All-step Clear store new old = All-nil P

  -- after calls
  pub All-rows_after : (calls : List Call) (store : Contents)
      → ((place : ℕ) (from : Parts) (cookie : Row) → Accepts calls store place from cookie → P cookie)
      → All P store.rows → All P (rows_after calls store)
  All-rows_after [] store new old = old
  All-rows_after (call ∷ calls) store new old =
      let after = (step call store).store in
      All-rows_after calls after
      (λ place from cookie accepts. new (suc place) from cookie (Accepts-later call calls store place from cookie accepts))
      (All-step call store (λ from cookie offers says. new zero from cookie ((call, refl, offers), says)) old)
