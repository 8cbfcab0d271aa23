use Rattle.std.proofs.Common.{subst}
use Rattle.cookie_serde.specs.JsonLines.{SerializesToJson}
use Rattle.cookie_serde.proofs.SavedAlike.{stopped_alike, whole_alike}
use Rattle.cookie_serde.proofs.json_lines.save_json_rows.Goals as goal

pub returns-clause-whole : goal.returns-clause-whole
returns-clause-whole g c =
    whole_alike _ _ SerializesToJson (λ row expected returned. subst (λ r. SerializesToJson r expected) returned.shows returned.says.met) c.save_rows.result _ _ _ c.save_rows.ensures.whole

pub returns-clause-stopped : goal.returns-clause-stopped
returns-clause-stopped g c =
    stopped_alike _ _ SerializesToJson (λ row expected returned. subst (λ r. SerializesToJson r expected) returned.shows returned.says.met) c.save_rows.result _ (g.W.Sink.state c.args.sink.now) (g.W.Sink.state c.save_rows.new.sink)
    c.save_rows.ensures.stopped
