-- The string that a time is saved as, such as `2026-01-31T23:59:59Z`, with or without a fraction of a second.
use Rattle.std.specs.Prelude.{ℕ, ◌+◌, ◌-◌, ◌*◌, ◌^◌, ◌==◌, Bool, ◌&&◌, List, [], ◌∷◌, length, drop, slice_index, slice_range, Option, Some, None, pos, bytes_eq, codes, nat_eq, if◌then◌else◌, unsigned_abs, ◌++◌, ◌/◌, ◌%◌}
use Rattle.std.specs.Char.{is_ascii_digit}
use Rattle.std.specs.List.{list_all, starts_with, ends_with}
use Rattle.std.specs.Str.Parse.{digits_value}
use Rattle.cookie_words.specs.Moments.{Moment, is_within, is_day, is_time, moment_of_fields}
use Rattle.cookie_words.specs.Steps.{◌>>=◌}

-- the value of `count` digits from index `from` on
unfoldable pub number_in : List ℕ → ℕ → ℕ → Option ℕ
number_in text from count =
    let part = slice_range text from (from + count) in
    if (length part == count) && list_all is_ascii_digit part then Some (digits_value 10 part) else None

-- `-`, `-`, `T`, `:` and `:` are at their places between the numbers
unfoldable pub has_separators : List ℕ → Bool
has_separators text =
    bytes_eq
    (slice_index text 4 ∷ slice_index text 7 ∷ slice_index text 10 ∷ slice_index text 13 ∷ slice_index text 16 ∷ [])
    (codes "--T::")

-- the nanoseconds of a fraction of one to nine digits
unfoldable pub nanoseconds_in : List ℕ → Option ℕ
nanoseconds_in digits =
    if is_within 1 9 (length digits) && list_all is_ascii_digit digits
    then Some (digits_value 10 digits * 10 ^ (9 - length digits)) else None

-- the nanoseconds given after the seconds: `Z`, or `.`, one to nine digits and `Z`
unfoldable pub fraction_of : List ℕ → Option ℕ
fraction_of rest =
    if bytes_eq rest (codes "Z") then Some 0
    else (if starts_with nat_eq rest (codes ".") && ends_with nat_eq rest (codes "Z")
    then nanoseconds_in (slice_range rest 1 (length rest - 1)) else None)

-- the time of a string: RFC 3339's date-time in UTC
unfoldable pub parsed_moment : List ℕ → Option Moment
parsed_moment text = do
  year ← number_in text 0 4
  month ← number_in text 5 2
  day ← number_in text 8 2
  hour ← number_in text 11 2
  minute ← number_in text 14 2
  second ← number_in text 17 2
  nanosecond ← fraction_of (drop 19 text)
  if has_separators text && is_day (pos year) month day && is_time hour minute second
      then Some (moment_of_fields year month day hour minute second nanosecond) else None

-- a number below 100 in two digits
abbrev pub two_digits : ℕ → List ℕ
two_digits n = (48 + n / 10) ∷ (48 + n % 10) ∷ []

-- a number below 10,000 in four digits
abbrev pub four_digits : ℕ → List ℕ
four_digits n = two_digits (n / 100) ++ two_digits (n % 100)

-- a date as `2026-01-31`
abbrev pub date_text : ℕ → ℕ → ℕ → List ℕ
date_text year month day = four_digits year ++ codes "-" ++ two_digits month ++ codes "-" ++ two_digits day

-- a time of day as `23:59:59`
abbrev pub clock_text : ℕ → ℕ → ℕ → List ℕ
clock_text hour minute second = two_digits hour ++ codes ":" ++ two_digits minute ++ codes ":" ++ two_digits second

-- the string of a time of the years 0 to 9999, without its fraction of a second
abbrev pub moment_text : Moment → List ℕ
moment_text m =
    date_text (unsigned_abs m.year) m.month m.day ++ codes "T" ++ clock_text m.hour m.minute m.second ++ codes "Z"

-- the time without its fraction of a second
abbrev pub whole_seconds : Moment → Moment
whole_seconds m = record {
  year = m.year;
  month = m.month;
  day = m.day;
  hour = m.hour;
  minute = m.minute;
  second = m.second;
  nanosecond = 0;
}
