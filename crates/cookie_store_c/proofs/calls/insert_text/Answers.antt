use Rattle.cookie_words.specs.Moments.{moment_of}
use Rattle.cookie_laws.specs.Runs.{Set}
use Rattle.cookie_strict.specs.StrictRuns.{strict_call}
use Rattle.cookie_store_c.proofs.StrictOutcomes.{strict_outcome}
use Rattle.cookie_store_c.proofs.calls.insert_text.Goals as goal

pub returns-then-is_strict : goal.returns-then-is_strict
returns-then-is_strict c =
    rw c.if-is_strict.true
    (strict_outcome _ c.parse.result (strict_call (Set c.args.text.now c.args.url.now (moment_of c.args.now)) c.args.store.now) c.args.store.now
    c.parse.new.store c.of_strict.result tt c.parse.ensures.reply c.parse.ensures.store c.parse.ensures.unchanged c.of_strict.ensures.inserted
    c.of_strict.ensures.rejected)
