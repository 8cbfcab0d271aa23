use Rattle.std.proofs.Common.{ap, ◌∙◌}
use Rattle.cookie_words.specs.Moments.{moment_of}
use Rattle.cookie_parts.proofs.Scale.{no_later_moment}
use Rattle.cookie_parts.proofs.cookie_expiration.cap_at_latest.Goals as goal

pub returns : goal.returns
returns c =
    ap moment_of c.min.ensures
    ∙ no_later_moment c.moments_round_trip.ensures c.args.moment c.latest.result c.latest.ensures
