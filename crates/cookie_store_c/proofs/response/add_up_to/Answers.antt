use Rattle.std.proofs.Common.{arith}
use Rattle.std.proofs.lemmas.List.Sums.{sum_by_more}
use Rattle.cookie_store_c.proofs.Responses.{adds_up, too_long}
use Rattle.cookie_store_c.proofs.response.add_up_to.Goals as goal

pub loop-len-preserved : goal.loop-len-preserved
loop-len-preserved c =
    let more = sum_by_more (λ x. x) c.args.lens.now c.loop-len.len-index 0 c.loop-len-test.true in
    omega (arith, more, c.loop-len.invariant, c.in-Some.ensures.0, c.in-Some.ensures.1)

pub returns-in-None : goal.returns-in-None
returns-in-None c =
    too_long c.args.lens.now c.loop-len.len-index c.loop-len.rest c.args.total c.loop-len-test.true c.loop-len.invariant c.in-None.ensures

pub returns : goal.returns
returns c = adds_up c.args.lens.now c.loop-len.len-index c.loop-len.rest c.args.total c.loop-len-test.false c.loop-len.invariant
