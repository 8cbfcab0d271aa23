-- The outcome of an insertion under the rules of browsers.
use Rattle.std.proofs.Common.{◌≡◌, Option, Some, Result, Ok, Err, IfErr, IfOk, OnErr, OnOk, ⊎_elim, inl, inr, ap, sym, ◌∙◌}
use Rattle.std.specs.Prelude.{⊤}
use Rattle.cookie_parts.specs.declared.store_action.StoreAction.{StoreAction}
use Rattle.cookie_laws.specs.Contents.{Contents}
use Rattle.cookie_laws.specs.Runs.{Call, Stored}
use Rattle.cookie_strict.specs.StrictRuns.{store_after_call, IsStrictReply}
use Rattle.cookie_strict.specs.declared.error.StrictError.{StrictError}
use Rattle.cookie_store_c.specs.Calls.{allowed_outcome, CallOutcome, HasOutcome}
use Rattle.cookie_store_c.specs.Statuses.{reply_status, strict_error_status}
use Rattle.cookie_store_c.specs.declared.status.Status.{Status}

-- the outcome is that of the call that is allowed, or memory ran out
pub strict_outcome : (MayAllocate : Type 0) (reported : Result StoreAction StrictError) (allowed : Result Call StrictError) (old new : Contents) (status : Status)
    → MayAllocate → IsStrictReply reported allowed old
    → OnOk reported (new ≡ store_after_call allowed old) → OnErr reported (new ≡ old)
    → IfOk reported (λ action. status ≡ reply_status (Stored (Ok action))) → IfErr reported (λ error. status ≡ strict_error_status error)
    → HasOutcome (allowed_outcome old allowed) MayAllocate (Some old) status (Some new)
strict_outcome MayAllocate (Ok action) (Ok call) old new status may reply stored same inserted rejected =
    inl (λ i. record { status = (inserted ∙ ap reply_status (sym reply)) i; store = Some (stored i) })
strict_outcome MayAllocate (Ok action) (Err error) old new status may reply stored same inserted rejected = absurd reply
strict_outcome MayAllocate (Err error) allowed old new status may reply stored same inserted rejected =
    ⊎_elim (λ memory. inr (rejected ∙ ap strict_error_status memory, may, ap Some same))
    (λ is. inl ((λ i. record { status = rejected i; store = Some (same i) }) ∙ ap (allowed_outcome old) (sym is)))
    reply

-- where memory may run out anyway, it may if a condition holds that does
pub may_run_out : (outcome : CallOutcome) (MayAllocate : Type 0) (old : Option Contents) (status : Status) (new : Option Contents)
    → MayAllocate → HasOutcome outcome ⊤ old status new → HasOutcome outcome MayAllocate old status new
may_run_out outcome MayAllocate old status new may (inl is) = inl is
may_run_out outcome MayAllocate old status new may (inr out) = inr (out.0, may, out.2)
