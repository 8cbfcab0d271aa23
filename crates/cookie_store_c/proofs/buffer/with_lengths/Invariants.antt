use Rattle.std.proofs.Common.{◌≡◌, ◌+◌, length, take}
use Rattle.cookie_device.specs.Joined.{joined}
use Rattle.cookie_store_c.proofs.buffer.with_lengths.Given as goal

abbrev pub invariant-loop-text : goal.invariant-loop-text
invariant-loop-text l = l.sum ≡ l.fn.total + length (joined (take l.text-index l.texts))
