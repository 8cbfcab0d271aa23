-- What every change of a store preserves holds after calls.
use Rattle.std.proofs.Common.{List, [], ◌∷◌, Result, Ok, Err}
use Rattle.url.specs.Parts.{Parts}
use Rattle.cookie_words.specs.Moments.{Moment}
use Rattle.cookie_parts.specs.Cookie.{Row, cookie_from_header}
use Rattle.cookie_parts.specs.declared.cookie_error.CookieError.{CookieError}
use Rattle.cookie_laws.specs.Acceptance.{accept, admitted, outcome_after_checks, received, reply_at, store_by}
use Rattle.cookie_laws.specs.Contents.{Contents}
use Rattle.cookie_laws.specs.Rows.{Key, has_key, key_of, removed, row_of, same_key}
use Rattle.cookie_laws.specs.Runs.{Call, Set, Insert, Remove, Clear, step, store_after}

-- what holds without rows, and is kept by the outcome of an admitted cookie and by a removal
module _ (P : Contents → Type 0)
    (outcome_keeps : (store : Contents) (cookie : Row) (url : Parts) (now : Moment) → P store
    → P (store_by (reply_at (row_of (key_of cookie) store.rows) cookie url now) store cookie now))
    (removes : (key : Key) (store : Contents) → P store
    → P (record store { rows = removed (has_key key) store.rows; created = removed (same_key key) store.created }))
    (clears : (store : Contents) → P store → P (record store { rows = []; created = [] })) where
  -- it holds after an admitted cookie, or an error
  outcome_after_checks-keeps : (cookie_result : Result Row CookieError) (url : Parts) (now : Moment) (store : Contents) → P store
      → P (outcome_after_checks cookie_result url now store).store
  outcome_after_checks-keeps (Err rejection) url now store held = held
  outcome_after_checks-keeps (Ok cookie) url now store held = outcome_keeps store cookie url now held

  -- after a received cookie
  accept-keeps : (store : Contents) (cookie : Row) (url : Parts) (now : Moment) → P store → P (accept store cookie url now).store
  unfolding accept
  accept-keeps store cookie url now held = outcome_after_checks-keeps (admitted store.suffixes url cookie) url now store held

  -- after a received cookie, or the error from making it
  received-keeps : (store : Contents) (cookie_result : Result Row CookieError) (url : Parts) (now : Moment) → P store
      → P (received store cookie_result url now).store
  received-keeps store (Err rejection) url now held = held
  received-keeps store (Ok cookie) url now held = accept-keeps store cookie url now held

  -- after a call
  step-keeps : (call : Call) (store : Contents) → P store → P (step call store).store
  step-keeps (Set text url now) store held = received-keeps store (cookie_from_header text url now) url now held
  step-keeps (Insert cookie url now) store held = accept-keeps store cookie url now held
  step-keeps (Remove key) store held = removes key store held
  step-keeps Clear store held = clears store held

  -- and after calls
  pub store_after-keeps : (calls : List Call) (store : Contents) → P store → P (store_after calls store)
  store_after-keeps [] store held = held
  store_after-keeps (call ∷ calls) store held = store_after-keeps calls (step call store).store (step-keeps call store held)
