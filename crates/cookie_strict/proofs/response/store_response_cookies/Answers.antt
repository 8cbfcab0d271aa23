use Rattle.std.proofs.Common.{◌≡◌, OnErr, subst}
use Rattle.cookie_words.specs.Moments.{moment_of}
use Rattle.cookie_strict.proofs.Responses.{after_value, next_value, on_err_anyway, stops_at_value}
use Rattle.cookie_strict.proofs.response.store_response_cookies.Goals as goal

pub loop-value-preserved : goal.loop-value-preserved
loop-value-preserved c =
    next_value _ c.args.values.now c.loop-value.value-index c.args.url.now (moment_of c.args.now) c.args.store.now c.loop-value.store c.parse.new.store
    c.loop-value-test.true c.loop-value.invariant
    (after_value c.parse.result _ c.loop-value.store c.parse.new.store c.parse.ensures.reply c.parse.ensures.store c.parse.ensures.unchanged c.in_ok-unless_memory.ensures.done)

pub returns-in_err-unless_memory-clause-stopped : goal.returns-in_err-unless_memory-clause-stopped
returns-in_err-unless_memory-clause-stopped c =
    let memory = c.in_err-unless_memory.ensures.memory in
    on_err_anyway c.from_residual.result
    (stops_at_value _ c.args.values.now c.loop-value.value-index c.args.url.now (moment_of c.args.now) c.args.store.now c.loop-value.store c.parse.new.store
    c.loop-value-test.true c.loop-value.invariant (c.parse.ensures.memory memory)
    (subst (λ r. OnErr r (c.parse.new.store ≡ c.loop-value.store)) memory c.parse.ensures.unchanged))
