use Rattle.std.proofs.Common.{subst}
use Rattle.cookie_serde.specs.JsonLines.{JsonParsesTo}
use Rattle.cookie_serde.proofs.LoadedAlike.{loaded_alike}
use Rattle.cookie_serde.proofs.json_lines.numbered_json_rows.Goals as goal

pub returns-clause-built : goal.returns-clause-built
returns-clause-built g c =
    (loaded_alike _ _ JsonParsesTo (λ line expected returned. subst (λ l. JsonParsesTo l expected) returned.shows returned.says.met) c.numbered_rows.result _ _ _
    c.numbered_rows.ensures.failed c.numbered_rows.ensures.built).1

pub returns-clause-failed : goal.returns-clause-failed
returns-clause-failed g c =
    (loaded_alike _ _ JsonParsesTo (λ line expected returned. subst (λ l. JsonParsesTo l expected) returned.shows returned.says.met) c.numbered_rows.result _ _ _
    c.numbered_rows.ensures.failed c.numbered_rows.ensures.built).0
