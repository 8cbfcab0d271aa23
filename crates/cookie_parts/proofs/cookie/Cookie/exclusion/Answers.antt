use Rattle.std.proofs.Common.{rules}
use Rattle.cookie_words.specs.Moments.{moment_of}
use Rattle.cookie_parts.proofs.Exclusions.{none-is_given}
use Rattle.cookie_parts.proofs.cookie.Cookie.exclusion.Goals as goal

pub returns-then-not-is_domain_for-clause-none : goal.returns-then-not-is_domain_for-clause-none
returns-then-not-is_domain_for-clause-none c = none-is_given c.args.url.now (moment_of c.args.now) c.args.self.now _ (search rules)

pub returns-then-not-is_match-clause-none : goal.returns-then-not-is_match-clause-none
returns-then-not-is_match-clause-none c = none-is_given c.args.url.now (moment_of c.args.now) c.args.self.now _ (search rules)

pub returns-then-not-is_secure-clause-none : goal.returns-then-not-is_secure-clause-none
returns-then-not-is_secure-clause-none c = none-is_given c.args.url.now (moment_of c.args.now) c.args.self.now _ (search rules)

pub returns-then-not-is_http_scheme-clause-none : goal.returns-then-not-is_http_scheme-clause-none
returns-then-not-is_http_scheme-clause-none c = none-is_given c.args.url.now (moment_of c.args.now) c.args.self.now _ (search rules)

pub returns-else-is_expired-clause-none : goal.returns-else-is_expired-clause-none
returns-else-is_expired-clause-none c = none-is_given c.args.url.now (moment_of c.args.now) c.args.self.now _ (search rules)
