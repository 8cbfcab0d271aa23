use Rattle.std.proofs.Common.{ap, ◌∙◌, int_eq}
use Rattle.jiff.specs.Words.{civil_nanos}
use Rattle.cookie_words.specs.Moments.{nanoseconds}
use Rattle.cookie_parts.proofs.Scale.{same_nanos}
use Rattle.cookie_parts.proofs.cookie_expiration.CookieExpirationPartialEq.eq.Goals as goal

pub returns-in-AtUtc-AtUtc : goal.returns-in-AtUtc-AtUtc
returns-in-AtUtc-AtUtc c =
    let first = c.whole_seconds.result in
    let second = c.whole_seconds-in-AtUtc-AtUtc.result in
    rw (c.in-AtUtc-AtUtc.is-0, c.in-AtUtc-AtUtc.is-1)
    (c.eq.ensures ∙ ap (λ n. int_eq n (civil_nanos second)) (same_nanos first ∙ ap nanoseconds c.whole_seconds.ensures)
    ∙ ap (int_eq _) (same_nanos second ∙ ap nanoseconds c.whole_seconds-in-AtUtc-AtUtc.ensures))
