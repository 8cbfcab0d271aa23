use Rattle.std.proofs.Common.{Err, FitsSigned, ap, length, sym, w64, ◌∙◌}
use Rattle.std.proofs.lemmas.Int.{to_z-of_z}
use Rattle.cookie_words.specs.Moments.{moment_of}
use Rattle.cookie_store_c.proofs.Responses.{all_parsed, not_lengths, not_requested}
use Rattle.cookie_store_c.proofs.response.parse_each.Goals as goal

pub returns-then-not-are_lengths : goal.returns-then-not-are_lengths
returns-then-not-are_lengths c =
    not_lengths c.args.is_strict c.args.url.now c.args.values.now c.args.lens.now c.args.now (length c.args.statuses.now) c.args.store.now
    c.args.statuses.now (sym c.are_lengths.ensures ∙ c.if-not-are_lengths.true)

pub returns-in-Err : goal.returns-in-Err
returns-in-Err c =
    let fits : FitsSigned w64 c.args.now = c.ranges.now in
    let value = simp to_z-of_z at c.in-Err.ensures.value in
    let memory = simp to_z-of_z at c.in-Err.ensures.memory in
    not_requested c.args.is_strict c.args.url.now c.args.values.now c.args.lens.now c.args.now (length c.args.statuses.now) c.args.store.now
    c.args.statuses.now c.in-Err.status (sym c.are_lengths.ensures ∙ c.if-not-are_lengths.false) value (λ same. memory (ap Err same))

pub returns : goal.returns
returns c =
    let fits : FitsSigned w64 c.args.now = c.ranges.now in
    let inputs = c.in-Ok.inputs in
    let value = simp to_z-of_z at c.in-Ok.ensures.value in
    all_parsed c.args.is_strict c.args.url.now c.args.values.now c.args.lens.now c.args.now (length c.args.statuses.now) c.args.store.now
    c.args.statuses.now (inputs.0, moment_of inputs.1) c.parse_values.new.store c.parse_values.new.statuses
    (sym c.are_lengths.ensures ∙ c.if-not-are_lengths.false) value (c.parse_values.ensures c.args.url.now c.args.now)
