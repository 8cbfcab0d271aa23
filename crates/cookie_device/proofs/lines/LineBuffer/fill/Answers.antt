use Rattle.std.proofs.Common.{arith}
use Rattle.std.proofs.lemmas.Grind.{common_steps}
use Rattle.cookie_device.proofs.Scanning.{IsScanned-from_none}
use Rattle.cookie_device.proofs.lines.LineBuffer.fill.Goals as goal

pub invariant_of-self : goal.invariant_of-self
invariant_of-self g c =
    let (part, is, consumed, bound) = c.read_more.ensures.more in
    IsScanned-from_none _ c.args.self.now part _ (grind (arith, common_steps)) (grind (arith, common_steps)) c.requires.no_line
