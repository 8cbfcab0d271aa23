use Rattle.std.proofs.Common.{◌≡◌, Ok, rules}
use Rattle.cookie_words.specs.Moments.{moment_of}
use Rattle.cookie_laws.specs.Runs.{Insert}
use Rattle.cookie_strict.specs.StrictRuns.{strict_call}
use Rattle.cookie_store_c.specs.InsertedCookies.{cookie_and_time, insert_call, insertion}
use Rattle.cookie_store_c.proofs.StrictOutcomes.{strict_outcome}
use Rattle.cookie_store_c.proofs.WrittenHeaders.{first_is_ok}
use Rattle.cookie_store_c.proofs.inserting.insert.Goals as goal

pub returns-then-is_strict : goal.returns-then-is_strict
returns-then-is_strict c =
    let inputs = c.in-Ok.inputs in
    let now = moment_of inputs.2 in
    let a = c.args in
    let call : insert_call a.domain.now a.path.now a.name.now a.value.now a.row.now a.now ≡ Ok (Insert inputs.0 inputs.1 now) = search rules in
    let given : insertion a.domain.now a.path.now a.name.now a.value.now a.row.now a.now ≡ Ok (inputs.0, inputs.1, now) = search rules in
    let valid = first_is_ok (cookie_and_time a.domain.now a.path.now a.name.now a.value.now a.row.now a.now) _ _ given in
    rw (c.if-is_strict.true, call)
    (strict_outcome _ c.insert.result (strict_call (Insert inputs.0 inputs.1 now) a.store.now) a.store.now c.insert.new.store c.of_strict.result valid
    c.insert.ensures.reply c.insert.ensures.store c.insert.ensures.unchanged c.of_strict.ensures.inserted c.of_strict.ensures.rejected)

pub returns : goal.returns
returns c =
    let inputs = c.in-Ok.inputs in
    let now = moment_of inputs.2 in
    let a = c.args in
    let call : insert_call a.domain.now a.path.now a.name.now a.value.now a.row.now a.now ≡ Ok (Insert inputs.0 inputs.1 now) = search rules in
    let given : insertion a.domain.now a.path.now a.name.now a.value.now a.row.now a.now ≡ Ok (inputs.0, inputs.1, now) = search rules in
    let valid = first_is_ok (cookie_and_time a.domain.now a.path.now a.name.now a.value.now a.row.now a.now) _ _ given in
    rw (c.if-is_strict.false, call) (search (rules, valid))
