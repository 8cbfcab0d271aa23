use Rattle.std.proofs.Common.{◌≡◌, ◌≢◌, ap, arith, refl, sym, subst, IfOk, OnErr, OnOk, Result, Ok, Err}
use Rattle.cookie_parts.specs.declared.cookie_error.CookieError.{CookieError}
use Rattle.cookie_parts.specs.declared.cookie_error.CookieError.TheVariants.{Memory}
use Rattle.cookie_parts.specs.declared.store_action.StoreAction.{StoreAction}
use Rattle.cookie_store.specs.Contents.{Contents}
use Rattle.cookie_store.specs.Runs as Runs
use Rattle.cookie_store.specs.Runs.{IsReply, UnlessMemory}
use Rattle.cookie_words.specs.Moments.{moment_of}
use Rattle.cookie_script.specs.Script.{run_command, line_text, reply_text}
use Rattle.cookie_script.proofs.jar.Jar.run_command.Goals as goal

-- a consequence of what holds if there is an error
on_err : {T E P Q : Type 0} (result : Result T E) → (P → Q) → OnErr result P → OnErr result Q
on_err (Ok value) follows p = tt
on_err (Err error) follows p = follows p

-- a consequence of what holds if there is a value
on_ok : {T E P Q : Type 0} (expected : T) (result : Result T E) → (P → Q) → IfOk result (λ value. (value ≡ expected) × P) → OnOk result Q
on_ok expected (Ok value) follows p = follows p.1
on_ok expected (Err error) follows p = tt

-- the same for a property of the value
if_ok : {T E P : Type 0} (Q : T → Type 0) (expected : T) (result : Result T E) → (P → Q expected)
    → IfOk result (λ value. (value ≡ expected) × P) → IfOk result Q
if_ok Q expected (Ok value) follows p = subst Q (sym p.0) (follows p.1)
if_ok Q expected (Err error) follows p = tt

-- a fact that holds unless memory ran out
unless : {P : Type 0} (result : Result StoreAction CookieError) → UnlessMemory result P → result ≢ Err Memory → P
unless (Ok action) p never = p
unless (Err rejection) p never = grind (arith, p, never)

-- the reply, unless memory ran out
reply : (result : Result StoreAction CookieError) (expected : Runs.Reply) → IsReply result expected → result ≢ Err Memory
    → Runs.Stored result ≡ expected
reply (Ok action) expected is never = sym is
reply (Err rejection) expected is never = grind (arith, is, never)

pub returns-in-Set-clause-state : goal.returns-in-Set-clause-state
unfolding run_command
returns-in-Set-clause-state c =
    on_ok _ c.result_or_memory.result
    (λ never. rw (c.in-Set.is, ← c.self.view_is)
    (ap (λ (s : Contents). record { store = s; moment = moment_of c.self.inside.moment })
    (unless c.parse.result c.parse.ensures.store never)))
    c.result_or_memory.ensures.outcome

pub returns-in-Set-clause-line_result : goal.returns-in-Set-clause-line_result
unfolding run_command
returns-in-Set-clause-line_result c =
    if_ok _ _ c.result_or_memory.result
    (λ never. rw (c.in-Set.is, ← c.self.view_is)
    (ap (λ r. line_text (reply_text r)) (reply c.parse.result _ c.parse.ensures.reply never)))
    c.result_or_memory.ensures.outcome

pub returns-in-Set-clause-memory : goal.returns-in-Set-clause-memory
returns-in-Set-clause-memory c =
    on_err c.result_or_memory.result
    (λ want. rw (c.in-Set.is) (rw (c.parse.ensures.memory want) refl))
    c.result_or_memory.ensures.memory
