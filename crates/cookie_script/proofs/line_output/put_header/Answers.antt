use Rattle.cookie_script.proofs.Gathering.{gathers_stopped, gathers_then, header_parts}
use Rattle.cookie_script.proofs.line_output.put_header.Goals as goal

pub returns-in_err-put_pair-in-Some : goal.returns-in_err-put_pair-in-Some
returns-in_err-put_pair-in-Some g c =
    rw (header_parts (λ x. x.now) c.args.cookies.now _ _ c.in-Some.ensures.cases.0)
    (gathers_stopped _ _ _ _ c.from_residual.ensures.0 c.in_err-put_pair-in-Some.ensures)

pub returns-in_ok-put_pair-in-Some : goal.returns-in_ok-put_pair-in-Some
returns-in_ok-put_pair-in-Some g c =
    rw (header_parts (λ x. x.now) c.args.cookies.now _ _ c.in-Some.ensures.cases.0)
    (gathers_then _ tt _ _ c.in_ok-put_pair-in-Some.ensures c.put_others.ensures)
