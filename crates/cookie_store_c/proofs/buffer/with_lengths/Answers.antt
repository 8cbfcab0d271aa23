use Rattle.std.proofs.Common.{[], arith, refl}
use Rattle.cookie_store_c.proofs.Filling.{fits}
use Rattle.cookie_store_c.proofs.buffer.with_lengths.Goals as goal

pub returns-in_err-sum : goal.returns-in_err-sum
returns-in_err-sum c =
    let more = fits (λ text. text.now) c.args.texts.now c.loop-text.text-index _ (record { ref_ptr = (0, 0); now = [] }) c.loop-text-test.true refl in
    rw c.from_residual.ensures (omega (arith, more, c.loop-text.invariant, c.in_err-sum.ensures))
