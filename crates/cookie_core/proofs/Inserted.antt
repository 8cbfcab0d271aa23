-- The store after a cookie that passed the checks is stored.
use Rattle.std.proofs.Common.{◌≡◌, ◌∙◌, ℕ, Bool, true, false, Option, Result, Ok, Err, None, IfErr, IfOk, OnOk, ap, arith, refl, sym}
use Rattle.url.specs.Parts.{Parts}
use Rattle.cookie_words.specs.Moments.{Moment}
use Rattle.cookie_psl.specs.Rules.{RuleList}
use Rattle.cookie_parts.specs.Cookie.{Row}
use Rattle.cookie_parts.specs.declared.cookie_error.CookieError.{CookieError}
use Rattle.cookie_parts.specs.declared.cookie_error.CookieError.TheVariants.{Memory}
use Rattle.cookie_parts.specs.declared.store_action.StoreAction.{StoreAction}
use Rattle.cookie_parts.specs.declared.store_action.StoreAction.TheVariants.{Inserted, ExpiredExisting, UpdatedExisting}
use Rattle.cookie_laws.specs.Acceptance.{accept, outcome_after_checks, reply_at, store_by}
use Rattle.cookie_laws.specs.Contents.{Contents, contents_of, rows_in_order}
use Rattle.cookie_laws.specs.Rows.{RowsInOrder, key_of, row_of}
use Rattle.cookie_laws.specs.Runs.{IsReply, Stored}
use Rattle.cookie_laws.specs.SecureLast.{accept_secure_last, store_after_checks_secure_last, store_secure_last_by}
use Rattle.cookie_rows.specs.Eviction.{HasRoom}
use Rattle.cookie_rows.specs.declared.eviction_order.EvictionOrder.{EvictionOrder}
use Rattle.cookie_rows.specs.declared.eviction_order.EvictionOrder.TheVariants.{ExpiredFirst, SecureLast}
use Rattle.cookie_core.specs.Insertions.{IsAccepted, as_stored, store_in, stored_in}
use Rattle.cookie_core.specs.declared.insertion.Acceptance.{Acceptance}

-- a cookie that is made host-only is replied as it was
pub stored_reply : (host_only : Bool) (store : Contents) (cookie : Row) (url : Parts) (now : Moment)
    → reply_at (row_of (key_of (as_stored host_only cookie)) store.rows) (as_stored host_only cookie) url now
    ≡ reply_at (row_of (key_of cookie) store.rows) cookie url now
stored_reply true store cookie url now = refl
stored_reply false store cookie url now = refl

-- and finds room as it did, in a store with any list
pub stored_room : (order : EvictionOrder) (host_only : Bool) (kept : RowsInOrder) (suffixes : Option RuleList) (limit : Option ℕ) (cookie : Row) (now : Moment)
    → HasRoom order (contents_of kept suffixes limit) cookie now → HasRoom order (contents_of kept None limit) (as_stored host_only cookie) now
stored_room ExpiredFirst host_only kept suffixes limit cookie now room = room
stored_room SecureLast true kept suffixes limit cookie now room = room
stored_room SecureLast false kept suffixes limit cookie now room = room

-- no action changes the list or the limit, and none depends on the list
pub stored_keeps : (order : EvictionOrder) (action : StoreAction) (kept : RowsInOrder) (suffixes : Option RuleList) (limit : Option ℕ) (cookie : Row) (now : Moment)
    → contents_of (rows_in_order (stored_in order action (contents_of kept None limit) cookie now)) suffixes limit
    ≡ stored_in order action (contents_of kept suffixes limit) cookie now
stored_keeps ExpiredFirst Inserted kept suffixes limit cookie now = refl
stored_keeps ExpiredFirst UpdatedExisting kept suffixes limit cookie now = refl
stored_keeps ExpiredFirst ExpiredExisting kept suffixes limit cookie now = refl
stored_keeps SecureLast Inserted kept suffixes limit cookie now = refl
stored_keeps SecureLast UpdatedExisting kept suffixes limit cookie now = refl
stored_keeps SecureLast ExpiredExisting kept suffixes limit cookie now = refl

-- an insertion stores the cookie that passed its checks
pub accepted_is_stored : (order : EvictionOrder) (url : Parts) (store : Contents) (cookie : Row) (now : Moment) (acceptance : Acceptance)
    → IsAccepted url store cookie now acceptance
    → store_in order store cookie url now ≡ stored_in order acceptance.action store (as_stored acceptance.is_host_only cookie) now
unfolding accept
accepted_is_stored ExpiredFirst url store cookie now acceptance is =
    let stored = as_stored acceptance.is_host_only cookie in
    ap (λ checked. (outcome_after_checks checked url now store).store) is.is_admitted
    ∙ ap (λ reply. store_by reply store stored now) (stored_reply acceptance.is_host_only store cookie url now ∙ is.is_replied)
accepted_is_stored SecureLast url store cookie now acceptance is =
    let stored = as_stored acceptance.is_host_only cookie in
    ap (λ checked. store_after_checks_secure_last checked url now store) is.is_admitted
    ∙ ap (λ reply. store_secure_last_by reply store stored now) (stored_reply acceptance.is_host_only store cookie url now ∙ is.is_replied)

-- and replies with its action
pub accepted_is_replied : (url : Parts) (store : Contents) (cookie : Row) (now : Moment) (acceptance : Acceptance)
    → IsAccepted url store cookie now acceptance → (accept store cookie url now).reply ≡ Ok acceptance.action
unfolding accept
accepted_is_replied url store cookie now acceptance is =
    ap (λ checked. (outcome_after_checks checked url now store).reply) is.is_admitted
    ∙ stored_reply acceptance.is_host_only store cookie url now ∙ is.is_replied

-- a consequence of what holds of a success
pub ok_then : {T E P Q : Type 0} (result : Result T E) → (P → Q) → OnOk result P → OnOk result Q
ok_then (Ok value) follows p = follows p
ok_then (Err error) follows p = tt

-- what each order of eviction leaves has what both leave
pub in_order_has : (P : Contents → Type 0) (order : EvictionOrder) (store : Contents) (cookie : Row) (url : Parts) (now : Moment)
    → P (accept store cookie url now).store → P (accept_secure_last store cookie url now) → P (store_in order store cookie url now)
in_order_has P ExpiredFirst store cookie url now first last = first
in_order_has P SecureLast store cookie url now first last = last

-- the reply to an insertion with this result, which has this action or ran out of memory
pub replied_by : (result : Result StoreAction CookieError) (reply : Result StoreAction CookieError) (action : StoreAction)
    → reply ≡ Ok action → IfOk result (λ stored. stored ≡ action) → IfErr result (λ error. (error ≡ Memory) × (action ≡ Inserted)) → IsReply result (Stored reply)
replied_by (Ok stored) reply action is same errors = ap Stored (is ∙ ap Ok (sym same))
replied_by (Err Memory) reply action is same errors = tt
replied_by (Err other) reply action is same errors = absurd (grind (arith, errors.0))

-- out of memory, it would have inserted
pub memory_inserts : (result : Result StoreAction CookieError) (reply : Result StoreAction CookieError) (action : StoreAction)
    → reply ≡ Ok action → IfErr result (λ error. (error ≡ Memory) × (action ≡ Inserted)) → result ≡ Err Memory → Stored reply ≡ Stored (Ok Inserted)
memory_inserts (Ok stored) reply action is errors memory = absurd (cc)
memory_inserts (Err error) reply action is errors memory = ap Stored (is ∙ ap Ok errors.1)
