use Rattle.std.proofs.Common.{sym, ap, ◌∙◌, ◌+ℤ◌, true≢false, FitsSigned, w64}
use Rattle.std.proofs.lemmas.Int.{to_z-of_z}
use Rattle.jiff.specs.Words.{civil_nanos}
use Rattle.cookie_words.proofs.EpochSeconds.{not_told, reported}
use Rattle.cookie_words.proofs.seconds.moment_at_second.Goals as goal

pub returns-in-Ok : goal.returns-in-Ok
returns-in-Ok c =
    let fits : FitsSigned w64 c.args.second = c.ranges.second in
    let length = simp to_z-of_z at c.from_secs.ensures in
    reported c.epoch.result c.args.second c.epoch.ensures c.moments_round_trip.ensures c.in-Ok.moment
    (c.in-Ok.ensures.value ∙ ap (λ n. civil_nanos c.epoch.result +ℤ n) length)

pub returns-in-Err : goal.returns-in-Err
returns-in-Err c =
    let fits : FitsSigned w64 c.args.second = c.ranges.second in
    let length = simp to_z-of_z at c.from_secs.ensures in
    not_told c.epoch.result c.args.second c.epoch.ensures
    (λ on_calendar. true≢false (sym (c.in-Err.ensures.succeeds.1 (rw length on_calendar))))
