use Rattle.std.proofs.Common.{ap, arith, length, length-append, ◌++◌, ◌∙◌, take}
use Rattle.cookie_device.specs.Joined.{joined}
use Rattle.cookie_store_c.proofs.Filling.{fits, next_text, stands_more}
use Rattle.cookie_store_c.proofs.buffer.put_all.Goals as goal

pub put-end-requires : goal.put-end-requires
put-end-requires c =
    let invariant = c.loop-text.invariant in
    let more = fits (λ text. text.now) c.args.texts.now c.loop-text.text-index _ _ c.loop-text-test.true (ap length c.as_bytes.ensures.value) in
    omega (arith, more, invariant.ends, invariant.long, c.requires)

pub loop-text-preserved : goal.loop-text-preserved
loop-text-preserved c =
    let invariant = c.loop-text.invariant in
    let text = c.as_bytes.result.now in
    let before = joined (take c.loop-text.text-index c.args.texts.now) in
    let next = next_text (λ text. text.now) c.args.texts.now c.loop-text.text-index _ text c.loop-text-test.true c.as_bytes.ensures.value in
    let longer = ap length next ∙ length-append before text in
    record {
      ends = omega (arith, longer, invariant.ends, c.put-end.ensures.end);
      long = c.put-end.ensures.long ∙ invariant.long;
      stands = λ prefix started stood.
          stands_more prefix before text _ started _ _ next
          (c.put-end.ensures.stands (prefix ++ before) started (invariant.stands prefix started stood));
    }
