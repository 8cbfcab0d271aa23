use Rattle.std.proofs.Common.{sym, codes}
use Rattle.std.proofs.lemmas.Bool.{cond-false}
use Rattle.cookie_netscape.specs.Lines.{before_quote}
use Rattle.cookie_netscape.proofs.HostEnds.{ends_otherwise}
use Rattle.cookie_netscape.proofs.fields.before_quote.Goals as goal

pub returns-in-None : goal.returns-in-None
unfolding before_quote
returns-in-None c = sym (cond-false _ _ _ (ends_otherwise c.args.text.now (codes "\"") (rw c.in-None.is at c.strip_suffix.ensures.cases)))
