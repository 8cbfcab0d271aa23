use Rattle.std.proofs.Common.{◌+◌, ◌++◌, ◌∙◌, drop, take}
use Rattle.cookie_device.specs.Joined.{joined}
use Rattle.std.proofs.lemmas.Bool.{false≢true}
use Rattle.cookie_device.proofs.Sending.{joined_next, joined_parts, next_gathered, part_longer, part_then, put_then}
use Rattle.cookie_device.proofs.output.Output.put_all.Goals as goal

pub loop-text-preserved : goal.loop-text-preserved
loop-text-preserved g c = record {
  sent =
      rw (joined_next _ _ _ _ c.loop-text-test.true c.as_bytes.ensures.value)
      (put_then _ _ _ _ _ _ _ _ c.loop-text.invariant.sent c.in_ok-put.ensures.whole);
  buffered = λ fits.
      let next = next_gathered _ _ _ _ _ _ _ c.loop-text-test.true c.as_bytes.ensures.value fits (c.loop-text.invariant.buffered fits) in
      (c.in_ok-put.ensures.buffered next.0).1 ∙ next.1;
  count = c.in_ok-put.ensures.count ∙ c.loop-text.invariant.count;
}

pub returns-in_err-put-clause-part : goal.returns-in_err-put-clause-part
returns-in_err-put-clause-part g c =
    let at = c.loop-text.text-index in
    let texts = c.args.texts.now in
    let text = c.as_bytes.result.now in
    let put = joined (take at texts) in
    let from = (g.W.Sink.state c.args.sink.now).contents in
    let to = (g.W.Sink.state c.put.new.sink).contents in
    rw (← joined_parts texts (at + 1), joined_next _ _ _ _ c.loop-text-test.true c.as_bytes.ensures.value)
    (part_longer from to c.args.self.now (put ++ text) (joined (drop (at + 1) texts))
    (part_then from (g.W.Sink.state c.loop-text.sink).contents to c.args.self.now put text c.loop-text.self c.loop-text.invariant.sent c.in_err-put.ensures.part))

pub returns-in_err-put-clause-buffered : goal.returns-in_err-put-clause-buffered
returns-in_err-put-clause-buffered g c = λ fits.
    let next = next_gathered _ _ _ _ _ _ _ c.loop-text-test.true c.as_bytes.ensures.value fits (c.loop-text.invariant.buffered fits) in
    absurd (false≢true (c.in_err-put.ensures.buffered next.0).0)
