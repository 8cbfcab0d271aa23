-- Seconds since 1970-01-01T00:00:00.
use Rattle.std.specs.Prelude.{◌&&◌, Option, Some, None, if◌then◌else◌, ℤ, pos, ◌-ℤ◌, ◌*ℤ◌, int_le}
use Rattle.std.specs.Int.{int_div_euclid}
use Rattle.cookie_words.specs.Moments.{Moment, moment_at, nanoseconds}

-- the second of a time, rounded down
abbrev pub epoch_second : Moment → ℤ
epoch_second moment = int_div_euclid (nanoseconds moment) (pos 1_000_000_000)

-- the first second of the year -9999
abbrev pub first_second : ℤ
first_second = pos 0 -ℤ pos 377_705_116_800

-- the last second of the year 9999
abbrev pub last_second : ℤ
last_second = pos 253_402_300_799

-- the time of a second within these years
abbrev pub moment_at_second : ℤ → Option Moment
moment_at_second second =
    if int_le first_second second && int_le second last_second then Some (moment_at (second *ℤ pos 1_000_000_000)) else None
