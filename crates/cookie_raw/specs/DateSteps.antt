-- Reading the tokens of a date one by one.
use Rattle.std.specs.Prelude.{ℕ, ◌&&◌, List, is_none, is_some, if◌then◌else◌}
use Rattle.cookie_raw.specs.CookieDate.{DateParts, time_of, day_of, month_of, year_of}

-- one more token sets the first part that is still missing and whose form it has, if there is one
abbrev pub with_token : DateParts → List ℕ → DateParts
with_token parts token =
    if is_none parts.time && is_some (time_of token) then record parts { time = time_of token }
    else (if is_none parts.day && is_some (day_of token) then record parts { day = day_of token }
    else (if is_none parts.month && is_some (month_of token) then record parts { month = month_of token }
    else (if is_none parts.year && is_some (year_of token) then record parts { year = year_of token }
    else parts)))
