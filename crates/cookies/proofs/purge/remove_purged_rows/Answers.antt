use Rattle.std.proofs.Common.{bytes_eq, not, rules}
use Rattle.cookie_words.specs.Moments.{moment_of}
use Rattle.cookie_parts.specs.Domain.{domain_text}
use Rattle.cookies.specs.Purges.{is_stale}
use Rattle.cookies.proofs.purge.remove_purged_rows.Goals as goal

pub returns-in_err-retain-clause-in_step : goal.returns-in_err-retain-clause-in_step
returns-in_err-retain-clause-in_step g c =
    c.retain.ensures.in_step (λ row. not (is_stale c.args.purge.is_expired c.args.purge.is_session (moment_of c.args.now) row)) (search rules)

pub retain-requires-in-Some-clause-in_step : goal.retain-requires-in-Some-clause-in_step
retain-requires-in-Some-clause-in_step g c =
    c.retain.ensures.in_step (λ row. not (is_stale c.args.purge.is_expired c.args.purge.is_session (moment_of c.args.now) row)) (search rules)

pub returns-in_err-retain-2-clause-in_step : goal.returns-in_err-retain-2-clause-in_step
returns-in_err-retain-2-clause-in_step g c =
    c.retain-in-Some.ensures.in_step (λ row. not (bytes_eq c.in-Some.domain.now (domain_text row.domain))) (search rules)

pub returns-in_ok-retain-2-clause-in_step : goal.returns-in_ok-retain-2-clause-in_step
returns-in_ok-retain-2-clause-in_step g c =
    c.retain-in-Some.ensures.in_step (λ row. not (bytes_eq c.in-Some.domain.now (domain_text row.domain))) (search rules)

pub returns-in_default-clause-in_step : goal.returns-in_default-clause-in_step
returns-in_default-clause-in_step g c =
    c.retain.ensures.in_step (λ row. not (is_stale c.args.purge.is_expired c.args.purge.is_session (moment_of c.args.now) row)) (search rules)
