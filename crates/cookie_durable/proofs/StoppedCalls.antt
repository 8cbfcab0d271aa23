-- Why a list of calls stops.
use Rattle.std.proofs.Common.{◌≡◌, ℕ, List, [], ◌∷◌, ◌++◌, length, slice_get, Some, IsTrue, refl, sym, subst}
use Rattle.cookie_laws.specs.Runs.{Call}
use Rattle.cookie_durable.specs.Checks.{IsReasonAfter, IsReasonOf}
use Rattle.cookie_durable.specs.Durable.{Durable}
use Rattle.cookie_durable.specs.declared.durable_error.DurableError.{DurableError}
use Rattle.cookie_durable.specs.declared.durable_error.DurableError.TheVariants.{Failed, Full, NotWritten, OutOfMemory, Unstorable}

-- the item behind the first ones
item_behind : {T : Type 0} (xs : List T) (y : T) (ys : List T) → slice_get (xs ++ y ∷ ys) (length xs) ≡ Some y
item_behind [] y ys = refl
item_behind (x ∷ xs) y ys = item_behind xs y ys

-- why the next call fails is why they stop
pub reason_after : {S : Type 0} (error : DurableError) (now begun : Durable S) (executed : List Call) (call : Call) (rest calls : List Call) (done : ℕ)
    → now.is_failed ≡ begun.is_failed → calls ≡ executed ++ call ∷ rest → length executed ≡ done → IsReasonOf error now call
    → IsReasonAfter error begun done calls
reason_after error now begun executed call rest calls done works all count reason =
    let next : slice_get calls done ≡ Some call =
    subst (λ (n : ℕ). slice_get calls n ≡ Some call) count
    (subst (λ (cs : List Call). slice_get cs (length executed) ≡ Some call) (sym all) (item_behind executed call rest)) in
    go error next reason
  where
    go : (error : DurableError) → slice_get calls done ≡ Some call → IsReasonOf error now call → IsReasonAfter error begun done calls
    go Failed next reason = subst IsTrue works reason
    go Unstorable next reason = (call, next, reason)
    go Full next reason = (call, next, reason.0)
    go OutOfMemory next reason = tt
    go (NotWritten cause) next reason = tt
