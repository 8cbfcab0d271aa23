-- No call has failed; of the buffer and the strings so far, all but what is in the buffer now was written.
use Rattle.std.proofs.Common.{◌≡◌, ◌+◌, ◌≤◌, ◌++◌, length, take}
use Rattle.cookie_device.specs.Device.{Sends}
use Rattle.cookie_device.specs.Joined.{joined}
use Rattle.cookie_device.proofs.output.Output.put_all.Given as goal

abbrev pub invariant-loop-text : goal.invariant-loop-text
invariant-loop-text g l = record {
  sent : Sends (g.W.Sink.state l.initial.sink).contents (g.W.Sink.state l.sink).contents (l.initial.self ++ joined (take l.text-index l.texts)) l.self;
  buffered : length l.initial.self + length (joined l.texts) ≤ 65_536 → l.self ≡ l.initial.self ++ joined (take l.text-index l.texts);
  count : (g.W.Sink.state l.sink).failed ≡ (g.W.Sink.state l.initial.sink).failed;
}
