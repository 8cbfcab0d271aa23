-- `jiff` compares times by the same nanoseconds.
use Rattle.std.proofs.Common.{rules}
use Rattle.jiff_core.specs.DateTime.{civil_nanos}
use Rattle.cookie_words.specs.Moments.{nanoseconds}
use Rattle.cookie_netscape.proofs.writing.is_from_epoch.Goals as goal

pub returns-in-AtUtc : goal.returns-in-AtUtc
unfolding civil_nanos nanoseconds
returns-in-AtUtc c = search rules
