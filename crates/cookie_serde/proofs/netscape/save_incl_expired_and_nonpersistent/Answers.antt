use Rattle.std.proofs.Common.{IfErr, subst}
use Rattle.cookie_serde.specs.NetscapeLists.{FailsToSaveNetscape}
use Rattle.cookie_serde.proofs.SavedLines.{filter-all}
use Rattle.cookie_serde.proofs.netscape.save_incl_expired_and_nonpersistent.Goals as goal

pub returns-clause-whole : goal.returns-clause-whole
returns-clause-whole g c = rw (← filter-all c.args.store.now.rows) c.save_among.ensures.whole

pub returns-clause-stopped : goal.returns-clause-stopped
returns-clause-stopped g c =
    subst (λ rows. IfErr c.save_among.result (λ error. FailsToSaveNetscape error rows (g.W.Sink.state c.args.writer.now) (g.W.Sink.state c.save_among.new.sink)))
    (filter-all c.args.store.now.rows) c.save_among.ensures.stopped
