-- Calls on a store, the replies to a list of calls, and the store after it.
use Rattle.std.specs.Prelude.{◌≡◌, ℕ, List, [], ◌∷◌, Option, Result, Ok, Err, ⊤}
use Rattle.url.specs.Parts.{Parts}
use Rattle.cookie_words.specs.Moments.{Moment}
use Rattle.cookie_parts.specs.Cookie.{Row, cookie_from_header}
use Rattle.cookie_parts.specs.declared.cookie_error.CookieError.{CookieError}
use Rattle.cookie_parts.specs.declared.cookie_error.CookieError.TheVariants.{Memory}
use Rattle.cookie_parts.specs.declared.store_action.StoreAction.{StoreAction}
use Rattle.cookie_laws.specs.Acceptance.{Outcome, accept, received}
use Rattle.cookie_laws.specs.Contents.{Contents}
use Rattle.cookie_laws.specs.Rows.{Key, has_key, removed, row_of, same_key}

-- A call that changes a store:
-- - `Set`: a Set-Cookie header value received from a URL at a time
-- - `Insert`: a cookie received from a URL at a time
-- - `Remove`: removes the row of a key
-- - `Clear`: removes all rows
pub data Call : Type 0 where
  Set : List ℕ → Parts → Moment → Call
  Insert : Row → Parts → Moment → Call
  Remove : Key → Call
  Clear : Call

-- the reply to a call: the result of a `Set` or an `Insert`; the removed row, if there was one; or
-- `Cleared`
pub data Reply : Type 0 where
  Stored : Result StoreAction CookieError → Reply
  Removed : Option Row → Reply
  Cleared : Reply

-- a reply, and the store after the call
pub record Step : Type 0 where
  pub reply : Reply
  pub store : Contents

-- the step of an insertion
abbrev pub stored : Outcome → Step
stored outcome = record { reply = Stored outcome.reply; store = outcome.store }

-- RFC 6265 5.3: the reply to a call, and the store after it
abbrev pub step : Call → Contents → Step
step (Set text url now) store = stored (received store (cookie_from_header text url now) url now)
step (Insert cookie url now) store = stored (accept store cookie url now)
step (Remove key) store = record {
  reply = Removed (row_of key store.rows);
  store = record store { rows = removed (has_key key) store.rows; created = removed (same_key key) store.created };
}
step Clear store = record { reply = Cleared; store = record store { rows = []; created = [] } }

-- the replies to a list of calls; each call is on the store that the previous one left
abbrev pub replies : List Call → Contents → List Reply
replies [] store = []
replies (call ∷ calls) store = (step call store).reply ∷ replies calls (step call store).store

-- the store after a list of calls
abbrev pub store_after : List Call → Contents → Contents
store_after [] store = store
store_after (call ∷ calls) store = store_after calls (step call store).store

-- the rows after a list of calls
abbrev pub rows_after : List Call → Contents → List Row
rows_after calls store = (store_after calls store).rows

-- the reply holds this result; any reply does if the result is out of memory
abbrev pub IsReply : Result StoreAction CookieError → Reply → Type 0
IsReply (Ok action) reply = reply ≡ Stored (Ok action)
IsReply (Err Memory) reply = ⊤
IsReply (Err rejection) reply = reply ≡ Stored (Err rejection)

-- the proposition, unless the result is out of memory
abbrev pub UnlessMemory : Result StoreAction CookieError → Type 0 → Type 0
UnlessMemory (Err Memory) P = ⊤
UnlessMemory result P = P
