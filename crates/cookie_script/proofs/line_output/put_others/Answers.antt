use Rattle.std.proofs.Common.{◌+◌, ◌∷◌, []}
use Rattle.cookie_store.specs.Header.{later_pair}
use Rattle.cookie_script.proofs.Gathering.{gathers_nothing, gathers_stopped, gathers_then, next_text, parts_text}
use Rattle.std.proofs.lemmas.List.{take_all}
use Rattle.cookie_script.proofs.line_output.put_others.Goals as goal

pub loop-cookie-init : goal.loop-cookie-init
loop-cookie-init g c = gathers_nothing _ _

pub loop-cookie-preserved : goal.loop-cookie-preserved
loop-cookie-preserved g c =
    rw (next_text (λ x. later_pair x.now) c.args.cookies.now c.loop-cookie.cookie-index _ c.cookie-item.result c.loop-cookie-test.true c.cookie-item.is)
    (gathers_then _ tt _ _ c.loop-cookie.invariant c.in_ok-put_pair.ensures)

pub returns-in_err-put_pair : goal.returns-in_err-put_pair
returns-in_err-put_pair g c =
    let at = c.loop-cookie.cookie-index in
    rw (
      ← parts_text (λ x. later_pair x.now) c.args.cookies.now (at + 1) (10 ∷ []),
      next_text (λ x. later_pair x.now) c.args.cookies.now at _ c.cookie-item.result c.loop-cookie-test.true c.cookie-item.is,
    )
    (gathers_stopped _ _ _ _ c.from_residual.ensures.0 (gathers_then _ tt _ _ c.loop-cookie.invariant c.in_err-put_pair.ensures))

pub returns : goal.returns
returns g c =
    rw (← take_all c.loop-cookie.cookie-index c.args.cookies.now c.loop-cookie-test.false)
    (gathers_then _ tt _ _ c.loop-cookie.invariant c.put_line.ensures)
