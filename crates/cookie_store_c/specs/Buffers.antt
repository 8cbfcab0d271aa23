-- Strings that are written into the caller's buffers.
use Rattle.std.specs.Prelude.{◌≡◌, ◌⊎◌, ℕ, List, ◌++◌, drop, length, nat_le, Result, Ok, Err, if◌then◌else◌}
use Rattle.cookie_store_c.specs.declared.status.Status.{Status}
use Rattle.cookie_store_c.specs.declared.status.Status.TheVariants.{Done, NoMemory, NoRoom}

-- the buffer with these items at its start, and otherwise unchanged
abbrev pub at_start : {T : Type 0} → List T → List T → List T
at_start items buffer = items ++ drop (length items) buffer

-- the buffer, which was `before`, has `prefix` at its start, which ends at `place`
pub record IsFilledTo (prefix before buffer : List ℕ) (place : ℕ) : Type 0 where
  pub filled : buffer ≡ at_start prefix before
  pub ends : place ≡ length prefix
  pub as_long : length buffer ≡ length before

-- the status, the buffer after the call, and the length of the string
pub record TextOutcome : Type 0 where
  pub status : Status
  pub buffer : List ℕ
  pub needed : ℕ

-- a string is written if it fits; its length is returned in any case
abbrev pub write_if_fits : List ℕ → List ℕ → TextOutcome
write_if_fits text buffer =
    if nat_le (length text) (length buffer) then record { status = Done; buffer = at_start text buffer; needed = length text }
    else record { status = NoRoom; buffer = buffer; needed = length text }

-- on an error nothing is written, and the length is 0
abbrev pub text_outcome : Result (List ℕ) Status → List ℕ → TextOutcome
text_outcome (Ok text) buffer = write_if_fits text buffer
text_outcome (Err status) buffer = record { status = status; buffer = buffer; needed = 0 }

-- memory ran out, which it may if `MayAllocate` holds; the buffer is unchanged and the length is 0
abbrev pub RunsOutWriting : Type 0 → List ℕ → Status → List ℕ → ℕ → Type 0
RunsOutWriting MayAllocate old status new needed = (status ≡ NoMemory) × MayAllocate × (new ≡ old) × (needed ≡ 0)

-- the outcome is that of this result, or memory ran out
abbrev pub WritesText : Result (List ℕ) Status → Type 0 → List ℕ → Status → List ℕ → ℕ → Type 0
WritesText expected MayAllocate old status new needed =
    (record { status = status; buffer = new; needed = needed } ≡ text_outcome expected old) ⊎ RunsOutWriting MayAllocate old status new needed

-- the outcome is that of a result with this property, or memory ran out
abbrev pub WritesSomeText : (Result (List ℕ) Status → Type 0) → Type 0 → List ℕ → Status → List ℕ → ℕ → Type 0
WritesSomeText IsResult MayAllocate old status new needed =
    ((expected : Result (List ℕ) Status) × IsResult expected × (record { status = status; buffer = new; needed = needed } ≡ text_outcome expected old))
    ⊎ RunsOutWriting MayAllocate old status new needed
