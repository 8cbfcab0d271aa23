-- Times cut to whole seconds.
use Rattle.std.proofs.Common.{◌≡◌, ℕ, ◌+◌, ◌*◌, ◌<◌, ℤ, pos, negsuc, ◌+ℤ◌, ◌*ℤ◌, ◌≤ℤ◌, Result, Ok, Err, FitsSigned, nat_abs, w64, arith, refl, sym, ap, ◌∙◌}
use Rattle.std.specs.Int.{int_div_euclid, FitsUnsignedBits}
use Rattle.std.specs.Result.{result_unwrap_or, OkIff}
use Rattle.std.proofs.lemmas.Int.{ints}
use Rattle.jiff_core.specs.Calendar.{days_from_civil}
use Rattle.jiff_core.proofs.SignedLemmas.{signed_arith}
use Rattle.cookie_words.specs.Moments.{Moment, epoch, moment_of, nanoseconds}
use Rattle.jiff_core.specs.declared.civil.datetime.DateTime.{DateTime}
use Rattle.jiff.specs.Words.{civil_nanos}
use Rattle.jiff.proofs.Family.{civil_nanos_range}
use Rattle.cookie_raw.specs.SetCookie.{of_seconds}
use Rattle.cookie_netscape.specs.Written.{not_negative, second_of}

-- the nanoseconds of the epoch
pub no_nanos : nanoseconds epoch ≡ pos 0
unfolding nanoseconds days_from_civil
no_nanos = omega (arith, signed_arith)

-- the second of a `DateTime` has at most 63 bits
pub second_is_small : (time : DateTime) → nanoseconds (moment_of time) ≤ℤ pos 9_223_372_036_854_775_807_999_999_999
unfolding civil_nanos nanoseconds
second_is_small time = omega (arith, signed_arith, civil_nanos_range time)

-- the second of whole seconds and a fraction
cut_to_second : (n whole second : ℤ) (fraction : ℕ) → fraction < 1_000_000_000 → whole ≡ second *ℤ pos 1_000_000_000
    → n ≡ whole +ℤ pos fraction → pos 0 ≤ℤ whole → of_seconds (not_negative (int_div_euclid n (pos 1_000_000_000))) ≡ whole
cut_to_second (pos n) whole second fraction small seconds parts from_epoch =
    omega (arith, signed_arith, seconds, parts, from_epoch)
cut_to_second (negsuc n) whole second fraction small seconds parts from_epoch =
    absurd (omega (arith, signed_arith, parts, from_epoch))

-- the second of a time from the epoch on is the time without its fraction
second_of_whole : (m : Moment) → m.nanosecond < 1_000_000_000 → pos 0 ≤ℤ nanoseconds (record m { nanosecond = 0 })
    → of_seconds (second_of m) ≡ nanoseconds (record m { nanosecond = 0 })
unfolding nanoseconds
second_of_whole m small from_epoch =
    let day : ℤ = days_from_civil m.year m.month m.day in
    let second : ℕ = m.hour * 3600 + m.minute * 60 + m.second in
    cut_to_second (nanoseconds m) (nanoseconds (record m { nanosecond = 0 })) (day *ℤ pos 86_400 +ℤ pos second) m.nanosecond small
    (omega (arith, signed_arith)) (omega (arith, signed_arith)) from_epoch

-- the same for a `DateTime` and another one, which is the first without its fraction
pub second_of_cut : (time cut : DateTime) → moment_of cut ≡ record (moment_of time) { nanosecond = 0 }
    → pos 0 ≤ℤ nanoseconds (moment_of cut) → of_seconds (second_of (moment_of time)) ≡ nanoseconds (moment_of cut)
second_of_cut time cut e from_epoch =
    let same = ap nanoseconds e in
    second_of_whole (moment_of time) time.time.subsec_in (omega (arith, signed_arith, same, from_epoch)) ∙ sym same

-- a number of seconds as an unsigned one, or 0
pub unsigned_or_0 : {E : Type 0} (r : Result ℕ E) (z : ℤ) → FitsSigned w64 z → OkIff r (FitsUnsignedBits 64 z) (nat_abs z)
    → result_unwrap_or r 0 ≡ not_negative z
unsigned_or_0 (Ok n) (pos m) small (fits, e) = e
unsigned_or_0 (Ok n) (negsuc m) small (fits, e) = absurd fits
unsigned_or_0 (Err error) (pos m) small beyond = absurd (beyond (omega (arith, ints, small)))
unsigned_or_0 (Err error) (negsuc m) small beyond = refl
