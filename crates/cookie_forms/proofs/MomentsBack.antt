-- The string of a time is parsed as that time without its fraction of a second.
use Rattle.std.proofs.Common.{◌≡◌, ℕ, ◌+◌, ◌*◌, ◌/◌, ◌%◌, ◌<◌, ◌≤◌, ◌==◌, true, ◌&&◌, length, Some, None, pos, ℤ, negsuc, subst, ◌≤ℤ◌, unsigned_abs, if◌then◌else◌, refl, ap, arith}
use Rattle.std.proofs.lemmas.Bool.Decides.{nat_tests}
use Rattle.std.specs.Char.{is_ascii_digit, digit_value}
use Rattle.std.specs.Int.{IsInRange}
use Rattle.std.specs.List.{list_all}
use Rattle.std.specs.Str.Parse.{digits_value}
use Rattle.std.proofs.lemmas.Str.{digit_value_digit}
use Rattle.jiff_core.specs.Calendar.{days_in_month}
use Rattle.jiff_core.proofs.CalendarLemmas.{days_in_month_bounds}
use Rattle.jiff_core.proofs.SignedLemmas.{signed_arith}
use Rattle.jiff.specs.declared.civil.datetimes.DateTime.{DateTime}
use Rattle.cookie_words.specs.Moments.{Moment, moment_of, is_day, is_time}
use Rattle.cookie_forms.specs.MomentText.{number_in, has_separators, fraction_of, parsed_moment, moment_text, two_digits, four_digits, whole_seconds}

is_digit : (k : ℕ) → k ≤ 9 → is_ascii_digit (48 + k) ≡ true
is_digit k small = grind (arith, nat_tests)

worth : (k : ℕ) → k ≤ 9 → digit_value (48 + k) ≡ k
worth k small = omega (arith, digit_value_digit (48 + k) (omega arith, omega arith))

two_in : (n : ℕ) → n < 100
    → (if (length (two_digits n) == 2) && list_all is_ascii_digit (two_digits n) then Some (digits_value 10 (two_digits n)) else None) ≡ Some n
two_in n small =
    let high : n / 10 ≤ 9 = omega arith in
    let low : n % 10 ≤ 9 = omega arith in
    let whole : (0 * 10 + n / 10) * 10 + n % 10 ≡ n = omega arith in
    rw (is_digit (n / 10) high, is_digit (n % 10) low, worth (n / 10) high, worth (n % 10) low, whole) refl

four_in : (n : ℕ) → n < 10_000
    → (if (length (four_digits n) == 4) && list_all is_ascii_digit (four_digits n) then Some (digits_value 10 (four_digits n)) else None) ≡ Some n
four_in n small =
    let first : n / 100 / 10 ≤ 9 = omega arith in
    let second : n / 100 % 10 ≤ 9 = omega arith in
    let third : n % 100 / 10 ≤ 9 = omega arith in
    let fourth : n % 100 % 10 ≤ 9 = omega arith in
    let whole : (((0 * 10 + n / 100 / 10) * 10 + n / 100 % 10) * 10 + n % 100 / 10) * 10 + n % 100 % 10 ≡ n = omega arith in
    rw (
      is_digit (n / 100 / 10) first,
      is_digit (n / 100 % 10) second,
      is_digit (n % 100 / 10) third,
      is_digit (n % 100 % 10) fourth,
      worth (n / 100 / 10) first,
      worth (n / 100 % 10) second,
      worth (n % 100 / 10) third,
      worth (n % 100 % 10) fourth,
      whole,
    ) refl

fields_back : (year month day hour minute second nanosecond : ℕ) → year < 10_000
    → month ≤ 12 → day ≤ 31 → hour < 24 → minute < 60 → second < 60
    → is_day (pos year) month day ≡ true → is_time hour minute second ≡ true
    → (m : Moment) → m ≡ record { year = pos year; month = month; day = day; hour = hour; minute = minute; second = second; nanosecond = nanosecond }
    → parsed_moment (moment_text m) ≡ Some (whole_seconds m)
unfolding parsed_moment number_in has_separators fraction_of
fields_back year month day hour minute second nanosecond y mo d h mi s calendar clock m e =
    rw (e, four_in year y, two_in month (omega arith), two_in day (omega arith), two_in hour (omega arith), two_in minute (omega arith), two_in second (omega arith), calendar, clock) refl

-- a date with a month and day in range exists
is_calendar_day : (year : ℤ) (month day : ℕ) → IsInRange 1 12 month → IsInRange 1 (days_in_month year month) day → is_day year month day ≡ true
is_calendar_day year month day m d = grind (arith, nat_tests, m, d)

-- a time of day with fields in range exists
is_clock_time : (hour minute second : ℕ) → hour < 24 → minute < 60 → second < 60 → is_time hour minute second ≡ true
is_clock_time hour minute second h m s = grind (arith, nat_tests)

-- a nonnegative integer is its absolute value
of_size : (z : ℤ) → pos 0 ≤ℤ z → z ≡ pos (unsigned_abs z)
of_size (pos n) h = refl
of_size (negsuc n) h = absurd h.le

pub moment_back : (d : DateTime) → pos 0 ≤ℤ d.date.year → parsed_moment (moment_text (moment_of d)) ≡ Some (whole_seconds (moment_of d))
moment_back d from_zero =
    let year : d.date.year ≡ pos (unsigned_abs d.date.year) = of_size d.date.year from_zero in
    let below : unsigned_abs d.date.year < 10_000 = omega (arith, signed_arith, from_zero, d.date.year_in) in
    fields_back (unsigned_abs d.date.year) d.date.month d.date.day d.time.hour d.time.minute d.time.second d.time.subsec_nanosecond
    below (omega (arith, d.date.month_in)) (omega (arith, days_in_month_bounds d.date.year d.date.month, d.date.day_in)) d.time.hour_in d.time.minute_in d.time.second_in
    (subst (λ z. is_day z d.date.month d.date.day ≡ true) year (is_calendar_day d.date.year d.date.month d.date.day d.date.month_in d.date.day_in)) (is_clock_time _ _ _ d.time.hour_in d.time.minute_in d.time.second_in)
    (moment_of d) (ap (λ z. record { year = z; month = d.date.month; day = d.date.day; hour = d.time.hour; minute = d.time.minute; second = d.time.second; nanosecond = d.time.subsec_nanosecond }) year)
