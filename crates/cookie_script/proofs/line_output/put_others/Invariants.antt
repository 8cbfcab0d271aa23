-- No call has failed, and what was buffered before and the cookies so far were written, except what is buffered now.
use Rattle.std.proofs.Common.{Ok, flat_map, take}
use Rattle.cookie_device.specs.declared.device.DeviceFailed.{DeviceFailed}
use Rattle.cookie_script.specs.LineOutput.{Gathers}
use Rattle.cookie_store.specs.Header.{later_pair}
use Rattle.cookie_script.proofs.line_output.put_others.Given as goal

abbrev pub invariant-loop-cookie : goal.invariant-loop-cookie
invariant-loop-cookie g l =
    Gathers {T = Unit {0}} {E = DeviceFailed} (Ok tt) (g.W.Sink.state l.initial.sink) (g.W.Sink.state l.sink) l.initial.out l.out
    (flat_map (λ c. later_pair c.now) (take l.cookie-index l.cookies))
