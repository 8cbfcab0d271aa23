-- The Set-Cookie header values of a response, which are parsed in one call.
use Rattle.std.specs.Prelude.{◌≡◌, ◌⊎◌, ℕ, ◌==◌, ◌&&◌, Bool, List, [], ◌∷◌, drop, length, sum, take, Option, Some, None, Result, Ok, Err, IsOk, IsSome, if◌then◌else◌, ℤ}
use Rattle.cookie_parts.specs.Cookie.{and_then}
use Rattle.cookie_laws.specs.Contents.{Contents}
use Rattle.cookie_store_c.specs.Calls.{ParsesValue, RunsOut}
use Rattle.cookie_store_c.specs.Inputs.{request, text_and_time}
use Rattle.cookie_store_c.specs.Statuses.{IsCodeOf}
use Rattle.cookie_store_c.specs.declared.status.Status.{Status}
use Rattle.cookie_store_c.specs.declared.status.Status.TheVariants.{BadOption, Done, NoStore}

-- each header value is parsed in turn, in the store that the one before it left; these are the numbers of their statuses
abbrev pub ParsesEach : Bool → List ℕ → ℤ → List (List ℕ) → Contents → List ℕ → Contents → Type 0
ParsesEach is_strict url now [] old [] new = new ≡ old
ParsesEach is_strict url now (value ∷ values) old (code ∷ codes) new =
    (between : Contents) × IsCodeOf code (λ status. ParsesValue is_strict url now value old status between)
    × ParsesEach is_strict url now values between codes new
ParsesEach is_strict url now [] old (code ∷ codes) new = ⊥
ParsesEach is_strict url now (value ∷ values) old [] new = ⊥

-- the header values of these lengths, one after the other
abbrev pub values_of : List ℕ → List ℕ → List (List ℕ)
values_of [] bytes = []
values_of (len ∷ lens) bytes = take len bytes ∷ values_of lens (drop len bytes)

-- the lengths add up to the total, and there are this many
abbrev pub are_lengths : List ℕ → ℕ → ℕ → Bool
are_lengths lens total count = sum lens == total && length lens == count

-- the header values, or `BadOption` if the lengths are not those of all bytes, or not as many as the statuses
abbrev pub values_in : List ℕ → List ℕ → ℕ → Result (List (List ℕ)) Status
values_in bytes lens count = if are_lengths lens (length bytes) count then Ok (values_of lens bytes) else Err BadOption

-- the status of the call, the store after it, and the numbers of the statuses of the header values
pub record ResponseOutcome : Type 0 where
  pub status : Status
  pub store : Option Contents
  pub codes : List ℕ

-- an error of the call, which leaves the store and the numbers unchanged
abbrev pub whole_error : Status → Option Contents → List ℕ → ResponseOutcome
whole_error status store codes = record { status = status; store = store; codes = codes }

-- each of the header values is parsed, or there is an error of the call
abbrev pub ParsesAll : Bool → List ℕ → ℤ → Option Contents → Result (List (List ℕ)) Status → List ℕ → ResponseOutcome → Type 0
ParsesAll is_strict url now None values codes outcome = outcome ≡ whole_error NoStore None codes
ParsesAll is_strict url now (Some store) (Err status) codes outcome = outcome ≡ whole_error status (Some store) codes
ParsesAll is_strict url now (Some store) (Ok values) codes outcome =
    (new : Contents) × (outcome.status ≡ Done) × (outcome.store ≡ Some new) × ParsesEach is_strict url now values store outcome.codes new

-- the same if the URL and the time are valid; or memory ran out for the URL, which leaves the store and the numbers unchanged
abbrev pub ParsesResponse : Bool → List ℕ → ℤ → Option Contents → Result (List (List ℕ)) Status → List ℕ → ResponseOutcome → Type 0
ParsesResponse is_strict url now store values codes outcome =
    ParsesAll is_strict url now store (and_then values (λ each. and_then (request url now) (λ inputs. Ok each))) codes outcome
    ⊎ ((outcome.codes ≡ codes) × RunsOut (IsSome store × IsOk values × IsOk (text_and_time url now)) store outcome.status outcome.store)
