-- What each call returns, and the store after it.
use Rattle.std.specs.Prelude.{◌≡◌, ◌==◌, if◌then◌else◌, ◌⊎◌, ℕ, Bool, true, false, List, [], length, Option, Some, None, unwrap_or, Result, Ok, Err, IsOk, ℤ}
use Rattle.std.specs.Result.{result_map_both}
use Rattle.url.specs.Parts.{Parts}
use Rattle.cookie_words.specs.Moments.{Moment}
use Rattle.cookie_psl.specs.Rules.{RuleList, SameRules}
use Rattle.cookie_parts.specs.Cookie.{Row}
use Rattle.cookie_inputs.specs.Suffixes.{suffixes_from, with_default}
use Rattle.cookie_inputs.specs.declared.suffixes.SuffixesError.{SuffixesError}
use Rattle.cookie_inputs.specs.declared.suffixes.SuffixesError.TheVariants as SuffixesCase
use Rattle.cookie_laws.specs.Contents.{Contents, retained, unexpired}
use Rattle.cookie_laws.specs.Runs.{Call, step}
use Rattle.cookie_rows.specs.Retained.{has_other_domain}
use Rattle.cookie_store_c.specs.Headers.{from_page}
use Rattle.cookie_store_c.specs.Inputs.{set_call, text_and_time, text_in}
use Rattle.cookie_strict.specs.StrictRuns.{response_call, store_after_call, strict_call}
use Rattle.cookie_strict.specs.declared.context.Context.{Context}
use Rattle.cookie_strict.specs.declared.error.StrictError.{StrictError}
use Rattle.cookie_store_c.specs.Statuses.{reply_status, strict_error_status}
use Rattle.cookie_store_c.specs.declared.status.Status.{Status}
use Rattle.cookie_store_c.specs.declared.status.Status.TheVariants.{Done, NoMemory, NoStore, HasStore, BadLimit, BadRule, NoRules}

-- the status that a call returns, and the store after it, if there is one
pub record CallOutcome : Type 0 where
  pub status : Status
  pub store : Option Contents

-- an error that leaves the store unchanged
abbrev pub error_outcome : Option Contents → Status → CallOutcome
error_outcome store status = record { status = status; store = store }

-- a call on a store; or the status of an invalid argument, which leaves the store unchanged
abbrev pub store_outcome : Contents → Result Call Status → CallOutcome
store_outcome store (Ok call) = record { status = reply_status (step call store).reply; store = Some (step call store).store }
store_outcome store (Err status) = error_outcome (Some store) status

-- what a call becomes under the rules of browsers, or the error
abbrev pub allowed_outcome : Contents → Result Call StrictError → CallOutcome
allowed_outcome store (Ok call) = record { status = reply_status (step call store).reply; store = Some (store_after_call (Ok call) store) }
allowed_outcome store (Err error) = error_outcome (Some store) (strict_error_status error)

-- an insertion into a store, under the rules of browsers if it is strict
abbrev pub insertion_outcome : Bool → Contents → Result Call Status → CallOutcome
insertion_outcome false store call = store_outcome store call
insertion_outcome true store (Ok call) = allowed_outcome store (strict_call call store)
insertion_outcome true store (Err status) = error_outcome (Some store) status

-- the insertion of a cookie of the response to a request that a page made, under the rules of browsers; or the status
-- of its flags or of another invalid argument
abbrev pub response_outcome : Result Context Status → Contents → Result (List ℕ × Parts × Parts × Moment) Status → CallOutcome
response_outcome (Ok context) store (Ok (text, page, url, now)) =
    allowed_outcome store (response_call (from_page context store url page) text url now store)
response_outcome (Ok context) store (Err status) = error_outcome (Some store) status
response_outcome (Err status) store inputs = error_outcome (Some store) status

-- the same, or `NoStore` if there is no store
abbrev pub response_outcome_in : Result Context Status → Option Contents → Result (List ℕ × Parts × Parts × Moment) Status → CallOutcome
response_outcome_in context None inputs = error_outcome None NoStore
response_outcome_in context (Some store) inputs = response_outcome context store inputs

-- an insertion, or `NoStore` if there is no store
abbrev pub insertion_outcome_in : Bool → Option Contents → Result Call Status → CallOutcome
insertion_outcome_in is_strict None call = error_outcome None NoStore
insertion_outcome_in is_strict (Some store) call = insertion_outcome is_strict store call

-- a call on a store, or `NoStore` if there is none
abbrev pub call_outcome : Option Contents → Result Call Status → CallOutcome
call_outcome None call = error_outcome None NoStore
call_outcome (Some store) call = store_outcome store call

-- an empty store is created, or `HasStore` if there is one
abbrev pub new_outcome : Option Contents → CallOutcome
new_outcome None = record { status = Done; store = Some (record { rows = []; created = []; suffixes = None; limit = None }) }
new_outcome (Some store) = error_outcome (Some store) HasStore

-- the call succeeds and the store is unchanged
abbrev pub unchanged_outcome : Option Contents → CallOutcome
unchanged_outcome None = error_outcome None NoStore
unchanged_outcome (Some store) = record { status = Done; store = Some store }

-- a copy of a store is put into an empty handle, or `HasStore` if the handle has a store; `NoStore` if there is none to copy
abbrev pub clone_outcome : Option Contents → Option Contents → CallOutcome
clone_outcome None held = error_outcome held NoStore
clone_outcome (Some store) None = record { status = Done; store = Some store }
clone_outcome (Some store) (Some held) = error_outcome (Some held) HasStore

-- a new store has the chosen flag; otherwise the flag is unchanged
abbrev pub flag_after_new : Bool → Option Contents → Option Contents → Bool → Bool
flag_after_new chosen None None is_strict = is_strict
flag_after_new chosen None (Some store) is_strict = chosen
flag_after_new chosen (Some store) new is_strict = is_strict

-- the flag of a store is set; without a store it is unchanged
abbrev pub flag_after_set : Option Contents → Bool → Bool → Bool
flag_after_set None chosen is_strict = is_strict
flag_after_set (Some store) chosen is_strict = chosen

-- each domain is limited to n cookies, and n is at least 1
abbrev pub limit_outcome : ℕ → Option Contents → CallOutcome
limit_outcome n None = error_outcome None NoStore
limit_outcome n (Some store) =
    if n == 0 then error_outcome (Some store) BadLimit
    else record { status = Done; store = Some (record store { limit = Some n }) }

-- how many cookies a domain may have, 0 if that is not limited or if there is no store
abbrev pub limit_of : Option Contents → ℕ
limit_of None = 0
limit_of (Some store) = unwrap_or store.limit 0

-- the cookies of the domain are removed, unless it is not UTF-8
abbrev pub domain_outcome : Result (List ℕ) Status → Option Contents → CallOutcome
domain_outcome domain None = error_outcome None NoStore
domain_outcome (Ok domain) (Some store) = record { status = Done; store = Some (retained (has_other_domain domain) store) }
domain_outcome (Err status) (Some store) = error_outcome (Some store) status

-- the expired cookies are removed, unless the time is out of range
abbrev pub expired_outcome : Result Moment Status → Option Contents → CallOutcome
expired_outcome now None = error_outcome None NoStore
expired_outcome (Ok now) (Some store) = record { status = Done; store = Some (unexpired now store) }
expired_outcome (Err status) (Some store) = error_outcome (Some store) status

-- memory ran out, which it may if `MayAllocate` holds, and the store is unchanged
abbrev pub RunsOut : Type 0 → Option Contents → Status → Option Contents → Type 0
RunsOut MayAllocate old status new = (status ≡ NoMemory) × MayAllocate × (new ≡ old)

-- the call had this outcome, or memory ran out
abbrev pub HasOutcome : CallOutcome → Type 0 → Option Contents → Status → Option Contents → Type 0
HasOutcome outcome MayAllocate old status new =
    (record { status = status; store = new } ≡ outcome) ⊎ RunsOut MayAllocate old status new

-- the cookie of a header value received from a URL is inserted, or memory ran out
abbrev pub ParsesValue : Bool → List ℕ → ℤ → List ℕ → Contents → Status → Contents → Type 0
ParsesValue is_strict url now value old status new =
    HasOutcome (insertion_outcome is_strict old (set_call url value now)) (IsOk (text_in value) × IsOk (text_and_time url now)) (Some old) status (Some new)

-- the status of the error of a list, and its malformed line
abbrev pub suffixes_error_status : SuffixesError → Status × ℕ
suffixes_error_status (SuffixesCase.BadRule line) = (BadRule, line)
suffixes_error_status SuffixesCase.NoRules = (NoRules, 0)
suffixes_error_status SuffixesCase.Memory = (NoMemory, 0)

-- the store is put under a list of these rules and is otherwise unchanged; or the status of the error of the list
abbrev pub UsesRules : Contents → Result RuleList SuffixesError → ℕ → CallOutcome → Type 0
UsesRules store (Ok rules) line outcome =
    (list : RuleList) × SameRules list rules × (line ≡ 0)
    × (outcome ≡ record { status = Done; store = Some (record store { suffixes = Some list }) })
UsesRules store (Err error) line outcome =
    (line ≡ (suffixes_error_status error).1) × (outcome ≡ error_outcome (Some store) (suffixes_error_status error).0)

-- the same for the string of a list, and the rule `*` unless only listed suffixes are public
abbrev pub UsesSuffixText : Bool → Contents → Result (List ℕ) Status → ℕ → CallOutcome → Type 0
UsesSuffixText only_listed store (Ok text) line outcome =
    UsesRules store (result_map_both (with_default only_listed) (λ error. error) (suffixes_from text)) line outcome
UsesSuffixText only_listed store (Err status) line outcome = (line ≡ 0) × (outcome ≡ error_outcome (Some store) status)

-- the same for a list in bytes, if there is a store
abbrev pub UsesSuffixes : Bool → Option Contents → List ℕ → ℕ → CallOutcome → Type 0
UsesSuffixes only_listed None list line outcome = (line ≡ 0) × (outcome ≡ error_outcome None NoStore)
UsesSuffixes only_listed (Some store) list line outcome = UsesSuffixText only_listed store (text_in list) line outcome

-- a function of the rows of a store, or `NoStore` if there is none
abbrev pub in_store : {T : Type 0} → (List Row → Result T Status) → Option Contents → Result T Status
in_store created None = Err NoStore
in_store created (Some store) = created store.rows

-- the number of rows
abbrev pub rows_count : Option Contents → ℕ
rows_count None = 0
rows_count (Some store) = length store.rows
