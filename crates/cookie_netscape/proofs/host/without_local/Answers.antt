use Rattle.std.proofs.Common.{sym, codes}
use Rattle.std.proofs.lemmas.Bool.{and_left, cond-false}
use Rattle.cookie_netscape.specs.HostFields.{without_local}
use Rattle.cookie_netscape.proofs.HostEnds.{ends_otherwise}
use Rattle.cookie_netscape.proofs.host.without_local.Goals as goal

pub returns-in_default-2 : goal.returns-in_default-2
unfolding without_local
returns-in_default-2 c =
    sym (cond-false _ _ _ (and_left _ _ (ends_otherwise c.args.host.now (codes ".local") (rw c.in_default.is at c.strip_suffix.ensures.cases))))
