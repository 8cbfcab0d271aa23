use Rattle.std.proofs.Common.{◌∙◌, ap}
use Rattle.cookie_words.specs.Moments.{moment_of}
use Rattle.cookie_durable.specs.Durable.{Durable}
use Rattle.cookie_durable.specs.Numbering.{Touches, key_in}
use Rattle.cookie_durable.proofs.CallSteps.{insert_touches}
use Rattle.cookie_durable.proofs.StagedCalls.{staged_after}
use Rattle.cookie_durable.proofs.durable_store.DurableStore.stage_insertion.Goals as goal

pub returns-in_ok-stage_key-in-Ok-clause-staged : goal.returns-in_ok-stage_key-in-Ok-clause-staged
returns-in_ok-stage_key-in-Ok-clause-staged g c =
    let e = c.in_ok-stage_key-in-Ok.ensures in
    staged_after g.S.Store.view _ _ (λ before. Touches (key_in c.in_ok-names.names) before c.insert_received.new.store) _ _ c.stage_key.new.self c.self.view_is c.requires
    (ap (λ (d : Durable _). d.is_failed) c.self.view_is ∙ c.in_ok-names.ensures.works)
    (λ rows numbered. insert_touches _ _ c.args.cookie c.args.url.now (moment_of c.args.now) c.in_ok-names.names _ _ rows
    c.in_ok-names.ensures.key c.in_ok-action.ensures.store numbered)
    e.numbered e.keyed e.file e.table
