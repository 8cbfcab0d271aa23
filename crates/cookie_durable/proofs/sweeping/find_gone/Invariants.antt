use Rattle.std.proofs.Common.{◌≡◌, take}
use Rattle.cookie_durable.specs.Sweeping.{gone_ids}
use Rattle.cookie_durable.proofs.sweeping.find_gone.Given as goal

abbrev pub invariant-loop-at : goal.invariant-loop-at
invariant-loop-at l = record {
  gone : l.gone.items ≡ gone_ids l.store (take l.at l.ids.entries);
}
