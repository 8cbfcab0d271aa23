use Rattle.std.specs.Io.KnownBytes.{Appends}
use Rattle.std.proofs.lemmas.Result.{on_ok_weaker}
use Rattle.cookie_device.proofs.Appending.{all_sent, beginning_after, longer_beginning, nothing_sent, sent_after, sent_beginning}
use Rattle.cookie_device.proofs.output.Output.put.Goals as goal

pub returns-then-text-len-clause-part : goal.returns-then-text-len-clause-part
returns-then-text-len-clause-part g c = sent_beginning _ _ _ _ (nothing_sent _ _)

pub returns-then-text-gt-LIMIT-clause-whole : goal.returns-then-text-gt-LIMIT-clause-whole
returns-then-text-gt-LIMIT-clause-whole g c =
    rw c.in_ok-flush.ensures.empty
    (on_ok_weaker c.write_all.result
    (λ (whole : Appends (g.W.Sink.state c.flush.new.sink).contents (g.W.Sink.state c.write_all.new.sink).contents c.args.text.now).
    sent_after _ _ _ _ _ _ c.in_ok-flush.ensures.whole (all_sent _ _ _ whole))
    c.write_all.ensures.whole)

pub returns-in_err-flush-clause-part : goal.returns-in_err-flush-clause-part
returns-in_err-flush-clause-part g c = longer_beginning _ _ _ _ c.in_err-flush.ensures.part

pub returns-then-text-gt-LIMIT-clause-part : goal.returns-then-text-gt-LIMIT-clause-part
returns-then-text-gt-LIMIT-clause-part g c = beginning_after _ _ _ _ _ c.in_ok-flush.ensures.whole c.write_all.ensures.part
