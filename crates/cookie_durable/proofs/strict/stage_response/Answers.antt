use Rattle.cookie_words.specs.Moments.{moment_of}
use Rattle.cookie_durable.specs.Numbering.{Touches, key_in}
use Rattle.cookie_durable.proofs.StagedCalls.{staged_after}
use Rattle.cookie_durable.proofs.StrictCalls.{response_on_numbered, when_some}
use Rattle.cookie_durable.proofs.strict.stage_response.Goals as goal

pub returns-in_ok-stage_key-in-Ok-clause-staged : goal.returns-in_ok-stage_key-in-Ok-clause-staged
returns-in_ok-stage_key-in-Ok-clause-staged g c =
    let e = c.in_ok-stage_key-in-Ok.ensures in
    let read = when_some c.in_ok-names.names c.in-Some.names _ c.in-Some.is c.in_ok-names.ensures.key in
    staged_after g.S.Store.view _ _ (λ before. Touches (key_in c.in-Some.names) before c.parse_strictly.new.store) _ _ c.stage_key.new.self c.durable.view_is c.requires c.if-durable.false
    (λ rows numbered. response_on_numbered _ _ c.args.context c.args.text.now read.0 c.args.url.now (moment_of c.args.now) c.in-Some.names _ _ rows
    read.1 read.2 c.in_ok-stored.ensures.store numbered)
    e.numbered e.keyed e.file e.table
