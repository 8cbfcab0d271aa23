use Rattle.std.proofs.Common.{arith, length, length-set, sym, ◌∙◌}
use Rattle.std.proofs.lemmas.List.Sums.{sum_by-drop_more}
use Rattle.cookie_store_c.specs.Responses.{values_of}
use Rattle.cookie_store_c.proofs.Responses.{lengths_are, next_value, parsed_each}
use Rattle.cookie_store_c.proofs.response.parse_values.Goals as goal

pub loop-index-init : goal.loop-index-init
loop-index-init c =
    let valid = lengths_are c.args.lens.now (length c.args.values.now) (length c.args.statuses.now) c.requires in
    record { fit = omega (arith, valid.0); as_many = sym valid.1; parsed = λ text second is more new others. others }

pub split_at-requires : goal.split_at-requires
split_at-requires c =
    let more = sum_by-drop_more (λ x. x) c.args.lens.now c.loop-index.index 0 c.loop-index-test.true in
    omega (arith, more, c.loop-index.invariant.fit)

pub loop-index-preserved : goal.loop-index-preserved
loop-index-preserved c =
    let i = c.loop-index.index in
    let invariant = c.loop-index.invariant in
    let within = c.loop-index-test.true in
    let parts = c.split_at.ensures in
    let more = sum_by-drop_more (λ x. x) c.args.lens.now i 0 within in
    record {
      fit = omega (arith, more, invariant.fit, parts.back_len);
      as_many = length-set c.loop-index.statuses i c.code.result ∙ invariant.as_many;
      parsed = λ text second is.
          next_value c.args.is_strict text second (values_of c.args.lens.now c.args.values.now) c.args.store.now c.args.lens.now i c.loop-index.rest.now
          c.split_at.result.0.now c.split_at.result.1.now c.loop-index.statuses c.code.result c.loop-index.store c.parse_value.new.store
          within (omega (arith, within, invariant.as_many)) parts.front parts.back
          (c.parse_value.result, c.code.ensures, c.parse_value.ensures text second is) (invariant.parsed text second is);
    }

pub returns : goal.returns
returns c = λ text second is.
    parsed_each c.args.is_strict text second (values_of c.args.lens.now c.args.values.now) c.args.store.now c.args.lens.now c.loop-index.index
    c.loop-index.rest.now c.loop-index.statuses c.loop-index.store c.loop-index-test.false (omega (arith, c.loop-index-test.false, c.loop-index.invariant.as_many))
    (c.loop-index.invariant.parsed text second is)
