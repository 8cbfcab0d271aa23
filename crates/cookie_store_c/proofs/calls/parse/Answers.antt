use Rattle.std.proofs.Common.{◌≡◌, Ok, IsOk, Some, rules}
use Rattle.cookie_words.specs.Moments.{moment_of}
use Rattle.cookie_laws.specs.Runs.{Set}
use Rattle.cookie_store_c.specs.Calls.{insertion_outcome}
use Rattle.cookie_store_c.specs.Inputs.{set_call, text_and_time, text_in}
use Rattle.cookie_store_c.proofs.StrictOutcomes.{may_run_out}
use Rattle.cookie_store_c.proofs.calls.parse.Goals as goal

pub returns : goal.returns
returns c =
    let url = c.in-Ok-request.inputs.0 in
    let now = moment_of c.in-Ok-request.inputs.1 in
    let call : set_call c.args.url.now c.args.value.now c.args.now ≡ Ok (Set c.in-Ok.text.now url now) = search rules in
    let valid : IsOk (text_in c.args.value.now) × IsOk (text_and_time c.args.url.now c.args.now) = search rules in
    rw call
    (may_run_out (insertion_outcome c.args.is_strict c.args.store.now (Ok (Set c.in-Ok.text.now url now)))
    (IsOk (text_in c.args.value.now) × IsOk (text_and_time c.args.url.now c.args.now)) (Some c.args.store.now) c.insert_text.result
    (Some c.insert_text.new.store) valid c.insert_text.ensures)
