-- Calls, replies and the error of `apply_all`, as contracts see them.
use Rattle.std.specs.Prelude.{◌≡◌, ℕ, List, ◌++◌, codes, decimal, take, length, map, slice_get, Some, None, Ok, ◌<◌, ◌⊎◌, string_bytes}
use Rattle.cookie_words.specs.Moments.{moment_of}
use Rattle.cookie_raw.specs.SetCookie.{reading}
use Rattle.cookie_parts.specs.Cookie.{early}
use Rattle.cookie_parts.specs.declared.store_action.StoreAction.TheVariants.{Inserted}
use Rattle.cookie_laws.specs.Contents.{Contents}
use Rattle.cookie_laws.specs.Rows.{key_at}
use Rattle.cookie_laws.specs.Runs as Runs
use Rattle.cookie_laws.specs.Runs.{replies, step, store_after}
use Rattle.cookie_core.specs.declared.call as Declared
use Rattle.cookie_core.specs.declared.call.Call.TheVariants.{Set, Insert, Remove, Clear}
use Rattle.cookie_core.specs.declared.call.Reply.TheVariants.{Stored, Removed, Cleared}

-- a `Call` as contracts see it
abbrev pub call_view : Declared.Call.Call → Runs.Call
call_view (Set text url now) = Runs.Set (string_bytes text) url (moment_of now)
call_view (Insert cookie url now) = Runs.Insert cookie url (moment_of now)
call_view (Remove domain path name) = Runs.Remove (key_at (string_bytes domain) (string_bytes path) (string_bytes name))
call_view Clear = Runs.Clear

-- a `Reply` as contracts see it
abbrev pub reply_view : Declared.Reply.Reply → Runs.Reply
reply_view (Stored result) = Runs.Stored result
reply_view (Removed cookie) = Runs.Removed cookie
reply_view Cleared = Runs.Cleared

-- whether a call may run out of memory: `Set` unless rejected early, `Insert` if the cookie would be inserted
abbrev pub MayAllocate : Runs.Call → Runs.Reply → Type 0
MayAllocate (Runs.Set text url now) reply = early (reading text) url ≡ None
MayAllocate (Runs.Insert cookie url now) reply = reply ≡ Runs.Stored (Ok Inserted)
MayAllocate (Runs.Remove key) reply = ⊥
MayAllocate Runs.Clear reply = ⊥

-- the first `count` calls were executed, the replies are theirs, and the store is the one after them
abbrev pub StopsAfter : Declared.Stopped.Stopped → List Runs.Call → Contents → Contents → Type 0
StopsAfter stopped calls old new =
    (stopped.count ≡ length stopped.replies.items)
    × (map reply_view stopped.replies.items ≡ replies (take stopped.count calls) old)
    × (new ≡ store_after (take stopped.count calls) old)

-- out of memory for the list of replies, before the first call, or in the call after `count` calls, which may allocate
abbrev pub StopsAt : ℕ → List Runs.Call → Contents → Type 0
StopsAt count calls store =
    ((count ≡ 0) × (0 < length calls))
    ⊎ ((call : Runs.Call) × (slice_get calls count ≡ Some call) × MayAllocate call (step call store).reply)

-- the error as `Display` prints it
abbrev pub stopped_text : Declared.Stopped.Stopped → List ℕ
stopped_text stopped = codes "out of memory after " ++ decimal stopped.count ++ codes " calls"
