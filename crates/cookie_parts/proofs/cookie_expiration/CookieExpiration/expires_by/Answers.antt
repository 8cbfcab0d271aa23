-- `jiff` compares times by the same nanoseconds.
use Rattle.std.proofs.Common.{rules, sym, ◌∙◌}
use Rattle.jiff_core.specs.DateTime.{civil_nanos}
use Rattle.cookie_words.specs.Moments.{moment_of, nanoseconds}
use Rattle.cookie_parts.specs.Views.{expiry_value}
use Rattle.cookie_parts.proofs.Scale.{is_by_later}
use Rattle.cookie_parts.proofs.cookie_expiration.CookieExpiration.expires_by.Goals as goal

pub returns-in-AtUtc-clause-value : goal.returns-in-AtUtc-clause-value
unfolding civil_nanos nanoseconds
returns-in-AtUtc-clause-value c = search rules

pub returns-in-AtUtc-clause-later : goal.returns-in-AtUtc-clause-later
returns-in-AtUtc-clause-later c later h passes =
    is_by_later (expiry_value c.args.self.now) (moment_of c.args.moment.now) later h (sym (returns-in-AtUtc-clause-value c) ∙ passes)
