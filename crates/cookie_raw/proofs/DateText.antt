-- A date in the parts in which it is written.
use Rattle.std.proofs.Common.{◌≡◌, ◌-◌, [], ◌++◌, codes, get_or, unsigned_abs, append_assoc}
use Rattle.jiff_core.specs.Calendar.{days_from_civil, weekday_number}
use Rattle.cookie_words.specs.Moments.{Moment}
use Rattle.cookie_raw.specs.CookieDate.{month_names}
use Rattle.cookie_raw.specs.CookieText.{rfc1123_date, day_names, four_digits, two_digits}

-- the day, the month with the year, the time and the zone
pub date_text_in_parts : (moment : Moment) → rfc1123_date moment
    ≡ (get_or day_names (weekday_number (days_from_civil moment.year moment.month moment.day)) []
    ++ codes ", " ++ two_digits moment.day)
    ++ codes " " ++ (get_or month_names (moment.month - 1) [] ++ codes " " ++ four_digits (unsigned_abs moment.year))
    ++ codes " " ++ (two_digits moment.hour ++ codes ":" ++ two_digits moment.minute ++ codes ":" ++ two_digits moment.second)
    ++ codes " GMT"
unfolding rfc1123_date
date_text_in_parts moment = simp append_assoc
