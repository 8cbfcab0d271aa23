use Rattle.std.proofs.Common.{◌∙◌, sym}
use Rattle.std.proofs.lemmas.Result.{on_ok_weaker}
use Rattle.cookie_serde.proofs.TakenCookies.{takes_nothing, takes_put}
use Rattle.cookie_serde.proofs.which.take.Goals as goal

pub returns-then-selects-clause-taken : goal.returns-then-selects-clause-taken
returns-then-selects-clause-taken c =
    on_ok_weaker c.take.result (takes_put c.args.which.now c.args.cookie _ _ (sym c.selects.ensures ∙ c.if-selects.true)) c.take.ensures.taken

pub returns-else-selects-clause-taken : goal.returns-else-selects-clause-taken
returns-else-selects-clause-taken c = takes_nothing c.args.which.now c.args.cookie _ (sym c.selects.ensures ∙ c.if-selects.false)
