use Rattle.std.proofs.Common.{sym, ap, ◌∙◌, arith, ◌+ℤ◌, ◌<ℤ◌, ℤ}
use Rattle.std.proofs.lemmas.Bool.{true≢false}
use Rattle.std.proofs.lemmas.Int.{by_lt_z}
use Rattle.jiff.specs.Words.{civil_nanos, signed_nanos}
use Rattle.jiff.proofs.Family.{civil_nanos_range}
use Rattle.jiff_core.proofs.SignedLemmas.{signed_arith}
use Rattle.cookie_words.specs.Moments.{moment_of}
use Rattle.cookie_parts.specs.Expiry.{capped_at_latest}
use Rattle.cookie_parts.proofs.Scale.{beyond_all, no_later_moment, same_nanos}
use Rattle.cookie_parts.proofs.cookie_expiration.after.Goals as goal

pub returns-in-Ok : goal.returns-in-Ok
returns-in-Ok c =
    ap moment_of c.min.ensures
    ∙ no_later_moment c.moments_round_trip.ensures c.in-Ok.end c.latest.result c.latest.ensures
    ∙ ap capped_at_latest (sym (same_nanos c.in-Ok.end) ∙ c.in-Ok.ensures.value ∙ ap (λ n. n +ℤ signed_nanos c.args.duration) (same_nanos c.args.now))

pub returns-in-Err : goal.returns-in-Err
returns-in-Err c =
    let sum : ℤ = civil_nanos c.args.now +ℤ signed_nanos c.args.duration in
    let beyond : civil_nanos c.latest-in-Err.result <ℤ sum = by_lt_z (civil_nanos c.latest-in-Err.result) sum (λ lt. lt)
    (λ le. absurd (true≢false (sym (c.in-Err.ensures.succeeds.1
    (omega (arith, signed_arith, civil_nanos_range c.args.now, c.requires), omega (arith, signed_arith, civil_nanos_range c.latest-in-Err.result, le)))))) in
    c.latest-in-Err.ensures ∙ beyond_all c.moments_round_trip.ensures c.latest-in-Err.result sum c.latest-in-Err.ensures beyond
    ∙ ap (λ n. capped_at_latest (n +ℤ signed_nanos c.args.duration)) (same_nanos c.args.now)
