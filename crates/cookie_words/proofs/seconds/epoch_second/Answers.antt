use Rattle.std.proofs.Common.{◌∙◌, arith, FitsSigned, w64}
use Rattle.std.proofs.lemmas.Int.{to_z-of_z, ints}
use Rattle.cookie_words.proofs.EpochSeconds.{second_is}
use Rattle.cookie_words.proofs.seconds.epoch_second.Goals as goal
use mir.Syntax.{w128}

pub overflow_cast-result : goal.overflow_cast-result
overflow_cast-result c =
    let fits : FitsSigned w128 c.as_nanos.result = omega (arith, ints, c.as_nanos.ensures.bound) in
    let divided = simp to_z-of_z at c.div_euclid.ensures in
    let second = second_is c.epoch.result c.args.moment c.epoch.ensures c.as_nanos.result (c.as_nanos.ensures.value ∙ c.duration_since.ensures)
    c.div_euclid.result divided in
    omega (arith, ints, second.0)

pub returns : goal.returns
returns c =
    let fits : FitsSigned w128 c.as_nanos.result = omega (arith, ints, c.as_nanos.ensures.bound) in
    let divided = simp to_z-of_z at c.div_euclid.ensures in
    let second = second_is c.epoch.result c.args.moment c.epoch.ensures c.as_nanos.result (c.as_nanos.ensures.value ∙ c.duration_since.ensures)
    c.div_euclid.result divided in
    let small : FitsSigned w64 c.div_euclid.result = second.0 in
    let whole = second.1 in
    omega (arith, ints, whole)
