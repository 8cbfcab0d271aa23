-- A `Moment` is a time in UTC: a date of the ISO 8601 calendar, extended to every year, and a time of day.
use Rattle.std.specs.Prelude.{ℕ, zero, suc, ◌+◌, ◌*◌, ◌/◌, ◌%◌, Bool, ◌&&◌, nat_le, ℤ, pos, ◌+ℤ◌, ◌-ℤ◌, ◌*ℤ◌, int_le, unsigned_abs, if◌then◌else◌}
use Rattle.std.specs.Int.{int_div_euclid, int_rem_euclid}
use Rattle.jiff_core.specs.Calendar.{days_in_month, days_from_civil}
use Rattle.jiff_core.specs.declared.civil.datetime.DateTime.{DateTime}

-- a date and a time of day in UTC
pub record Moment : Type 0 where
  pub year : ℤ
  pub month : ℕ
  pub day : ℕ
  pub hour : ℕ
  pub minute : ℕ
  pub second : ℕ
  pub nanosecond : ℕ

-- the fields of a `DateTime` of `jiff`, as contracts see them
abbrev pub moment_of : DateTime → Moment
moment_of d = record {
  year = d.date.year;
  month = d.date.month;
  day = d.date.day;
  hour = d.time.hour;
  minute = d.time.minute;
  second = d.time.second;
  nanosecond = d.time.subsec_nanosecond;
}

-- the time with these fields; the year is not negative
abbrev pub moment_of_fields : ℕ → ℕ → ℕ → ℕ → ℕ → ℕ → ℕ → Moment
moment_of_fields year month day hour minute second nanosecond = record {
  year = pos year;
  month = month;
  day = day;
  hour = hour;
  minute = minute;
  second = second;
  nanosecond = nanosecond;
}

-- 1970-01-01T00:00:00
abbrev pub epoch : Moment
epoch = record { year = pos 1970; month = 1; day = 1; hour = 0; minute = 0; second = 0; nanosecond = 0 }

-- the nanoseconds from the epoch to this time; each day has 24 hours
unfoldable pub nanoseconds : Moment → ℤ
nanoseconds m =
    days_from_civil m.year m.month m.day *ℤ pos 86_400_000_000_000
    +ℤ pos ((m.hour * 3600 + m.minute * 60 + m.second) * 1_000_000_000 + m.nanosecond)

-- the greatest number from 1 to n that passes the test, or 0 if none does
abbrev pub greatest : (ℕ → Bool) → ℕ → ℕ
greatest test zero = 0
greatest test (suc n) = if test (suc n) then suc n else greatest test n

-- the last year from -9999 to 9999 that has begun by this day; days are counted from the epoch
abbrev pub year_of_day : ℤ → ℤ
year_of_day day =
    pos (greatest (λ n. int_le (days_from_civil (pos n -ℤ pos 10_000) 1 1) day) 19_999) -ℤ pos 10_000

-- the last month of the year that has begun by this day
abbrev pub month_of_day : ℤ → ℤ → ℕ
month_of_day year day = greatest (λ month. int_le (days_from_civil year month 1) day) 12

-- the time of a day and of nanoseconds since its start
abbrev pub moment_of_day : ℤ → ℕ → Moment
moment_of_day day time =
    let year = year_of_day day in
    let month = month_of_day year day in
    record {
      year = year;
      month = month;
      day = unsigned_abs (day -ℤ days_from_civil year month 1) + 1;
      hour = time / 3_600_000_000_000;
      minute = time / 60_000_000_000 % 60;
      second = time / 1_000_000_000 % 60;
      nanosecond = time % 1_000_000_000;
    }

-- the time that is this many nanoseconds from the epoch, in the years -9999 to 9999
unfoldable pub moment_at : ℤ → Moment
moment_at nanoseconds =
    moment_of_day (int_div_euclid nanoseconds (pos 86_400_000_000_000))
    (unsigned_abs (int_rem_euclid nanoseconds (pos 86_400_000_000_000)))

-- low <= n <= high
abbrev pub is_within : ℕ → ℕ → ℕ → Bool
is_within low high n = nat_le low n && nat_le n high

-- the calendar has this day
abbrev pub is_day : ℤ → ℕ → ℕ → Bool
is_day year month day = is_within 1 12 month && is_within 1 (days_in_month year month) day

-- the time of day exists
abbrev pub is_time : ℕ → ℕ → ℕ → Bool
is_time hour minute second = nat_le hour 23 && nat_le minute 59 && nat_le second 59
