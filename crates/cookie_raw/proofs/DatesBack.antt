-- A printed date parses as the same time.
use Rattle.std.proofs.Common.{◌≡◌, ℕ, suc, ◌-◌, ◌≤◌, true, ◌&&◌, nat_le, ℤ, pos, negsuc, List, [], ◌∷◌, get_or, Some, None, codes, sym, ap, ◌∙◌, subst, arith}
use Rattle.std.specs.Prelude.{◌==◌}
use Rattle.std.proofs.lemmas.Bool.{false≢true, cond-true, and_parts, and_from, eqb-true, leb-true, le-leb}
use Rattle.jiff_core.specs.Calendar.{days_in_month, days_from_civil, weekday_number}
use Rattle.jiff_core.proofs.CalendarLemmas.{days_in_month_bounds, weekday_number_bound}
use Rattle.cookie_words.specs.Moments.{Moment, is_within, is_day, is_time, moment_of_fields}
use Rattle.cookie_raw.specs.CookieDate.{TimeParts, tokens, time_of, month_names, parts_of, moment_of_parts, cookie_date}
use Rattle.cookie_raw.specs.CookieText.{day_names, two_digits, four_digits, rfc1123_date}
use Rattle.cookie_raw.specs.PlainCookie.{is_plain_moment, is_plain_text}
use Rattle.cookie_raw.proofs.PlainDates.{words_are_plain}
use Rattle.cookie_raw.proofs.PrintedWords.{date_of_words, as_words, date_tokens, day_name_is_word, month_name_is_word, two_digits_are_word, four_digits_are_word, clock_is_word}
use Rattle.cookie_raw.proofs.PrintedTokens.{IsUnread, IsDay, IsMonth, IsYear, clock_text, day_name_unread, two_digits_are_day, month_name_is_month, four_digits_are_year, clock_back}

-- the parts that the tokens of a printed date give
token_parts : (weekday day_token month_token year_token clock_token rest : List ℕ) (day month year : ℕ) (clock : TimeParts)
    → IsUnread weekday → IsDay day_token day → IsMonth month_token month → IsYear year_token year → time_of clock_token ≡ Some clock
    → parts_of (weekday ∷ day_token ∷ month_token ∷ year_token ∷ clock_token ∷ rest ∷ [])
    ≡ record { time = Some clock; day = Some day; month = Some month; year = Some year }
token_parts weekday day_token month_token year_token clock_token rest day month year clock a b c d e =
    simp (a.time, a.day, a.month, a.year, b.time, b.day, b.month, c.time, c.month, c.year, d.time, d.year, e)

-- P holds of each time in whole seconds in the years 1601 to 9999
abbrev HoldsInSeconds : (Moment → Type 0) → Type 0
HoldsInSeconds P =
    (year month day hour minute second : ℕ) → is_within 1601 9999 year ≡ true → is_day (pos year) month day ≡ true → is_time hour minute second ≡ true
    → P (moment_of_fields year month day hour minute second 0)

-- such a P holds of the fields of each plain time
of_fields : (P : Moment → Type 0) → HoldsInSeconds P → (year : ℤ) (month day hour minute second nanosecond : ℕ)
    → is_plain_moment (record { year = year; month = month; day = day; hour = hour; minute = minute; second = second; nanosecond = nanosecond }) ≡ true
    → P (record { year = year; month = month; day = day; hour = hour; minute = minute; second = second; nanosecond = nanosecond })
of_fields P each (negsuc year) month day hour minute second nanosecond h = absurd (false≢true h)
of_fields P each (pos year) month day hour minute second nanosecond h =
    let whole = and_parts (is_within 1601 9999 year && is_day (pos year) month day && is_time hour minute second) (nanosecond == 0) h in
    let times = and_parts (is_within 1601 9999 year && is_day (pos year) month day) (is_time hour minute second) whole.0 in
    let dates = and_parts (is_within 1601 9999 year) (is_day (pos year) month day) times.0 in
    subst (λ (n : ℕ). P (record { year = pos year; month = month; day = day; hour = hour; minute = minute; second = second; nanosecond = n }))
    (sym (eqb-true nanosecond 0 whole.1)) (each year month day hour minute second dates.0 dates.1 times.1)

-- and so of each plain time
of_plain : (P : Moment → Type 0) → HoldsInSeconds P → (moment : Moment) → is_plain_moment moment ≡ true → P moment
of_plain P each moment h = of_fields P each moment.year moment.month moment.day moment.hour moment.minute moment.second moment.nanosecond h

-- the name of the weekday of a date
abbrev weekday_of : ℕ → ℕ → ℕ → List ℕ
weekday_of year month day = get_or day_names (weekday_number (days_from_civil (pos year) month day)) []

-- the parts of a plain time are within their ranges
record HasSmallParts (year month day hour minute second : ℕ) : Type 0 where
  first_year : 1601 ≤ year
  last_year : year ≤ 9999
  first_month : 1 ≤ month
  last_month : month ≤ 12
  days : day ≤ 31
  hours : hour ≤ 23
  minutes : minute ≤ 59
  seconds : second ≤ 59

-- so are those of a time in the years 1601 to 9999
small_parts : (year month day hour minute second : ℕ) → is_within 1601 9999 year ≡ true → is_day (pos year) month day ≡ true → is_time hour minute second ≡ true
    → HasSmallParts year month day hour minute second
small_parts year month day hour minute second h k l =
    let years = and_parts (nat_le 1601 year) (nat_le year 9999) h in
    let date = and_parts (is_within 1 12 month) (is_within 1 (days_in_month (pos year) month) day) k in
    let months = and_parts (nat_le 1 month) (nat_le month 12) date.0 in
    let days = and_parts (nat_le 1 day) (nat_le day (days_in_month (pos year) month)) date.1 in
    let time = and_parts (nat_le hour 23 && nat_le minute 59) (nat_le second 59) l in
    let hours = and_parts (nat_le hour 23) (nat_le minute 59) time.0 in
    record {
      first_year = leb-true 1601 year years.0;
      last_year = leb-true year 9999 years.1;
      first_month = leb-true 1 month months.0;
      last_month = leb-true month 12 months.1;
      days = omega (arith, leb-true day (days_in_month (pos year) month) days.1, days_in_month_bounds (pos year) month);
      hours = leb-true hour 23 hours.0;
      minutes = leb-true minute 59 hours.1;
      seconds = leb-true second 59 time.1;
    }

-- the words of a printed date
printed_words : (year month day hour minute second : ℕ) → rfc1123_date (moment_of_fields year month day hour minute second 0)
    ≡ date_of_words (weekday_of year month day) (two_digits day) (get_or month_names (month - 1) []) (four_digits year) (clock_text hour minute second)
unfolding rfc1123_date
printed_words year month day hour minute second =
    as_words (weekday_of year month day) (two_digits day) (get_or month_names (month - 1) []) (four_digits year) (two_digits hour) (two_digits minute) (two_digits second)

-- the parts that the tokens of a printed date give
printed_parts : (year month day hour minute second : ℕ) → HasSmallParts year month day hour minute second
    → parts_of (tokens (rfc1123_date (moment_of_fields year month day hour minute second 0)))
    ≡ record { time = Some (record { hour = hour; minute = minute; second = second }); day = Some day; month = Some month; year = Some year }
printed_parts year month day hour minute second small =
    let weekday = weekday_number_bound (days_from_civil (pos year) month day) in
    let again : suc (month - 1) ≡ month = omega arith in
    let named = subst (IsMonth (get_or month_names (month - 1) [])) again (month_name_is_month (month - 1) (omega arith)) in
    ap (λ text. parts_of (tokens text)) (printed_words year month day hour minute second)
    ∙ ap parts_of (date_tokens (weekday_of year month day) (two_digits day) (get_or month_names (month - 1) []) (four_digits year) (clock_text hour minute second)
    (day_name_is_word _ weekday) (two_digits_are_word day (omega arith)) (month_name_is_word (month - 1) (omega arith))
    (four_digits_are_word year (omega arith)) (clock_is_word hour minute second (omega arith) (omega arith) (omega arith)))
    ∙ token_parts (weekday_of year month day) (two_digits day) (get_or month_names (month - 1) []) (four_digits year) (clock_text hour minute second) (codes "GMT")
    day month year (record { hour = hour; minute = minute; second = second })
    (day_name_unread _ weekday) (two_digits_are_day day (omega arith)) named (four_digits_are_year year (omega arith) (omega arith))
    (clock_back hour minute second (omega arith) (omega arith) (omega arith))

-- parts of an existing date and time give that time
moment_from_parts : (year month day hour minute second : ℕ) → 1601 ≤ year → is_day (pos year) month day ≡ true → is_time hour minute second ≡ true
    → moment_of_parts (record { time = Some (record { hour = hour; minute = minute; second = second }); day = Some day; month = Some month; year = Some year })
    ≡ Some (moment_of_fields year month day hour minute second 0)
unfolding moment_of_parts
moment_from_parts year month day hour minute second h k l =
    cond-true (nat_le 1601 year && is_day (pos year) month day && is_time hour minute second) (Some (moment_of_fields year month day hour minute second 0)) None
    (and_from (nat_le 1601 year && is_day (pos year) month day) (is_time hour minute second)
    (and_from (nat_le 1601 year) (is_day (pos year) month day) (le-leb 1601 year h) k) l)

-- the printed date of a time in whole seconds parses as that time
seconds_back : HoldsInSeconds (λ moment. cookie_date (rfc1123_date moment) ≡ Some moment)
seconds_back year month day hour minute second h k l =
    let small = small_parts year month day hour minute second h k l in
    ap moment_of_parts (printed_parts year month day hour minute second small)
    ∙ moment_from_parts year month day hour minute second small.first_year k l

-- and is a plain string
seconds_are_plain : HoldsInSeconds (λ moment. is_plain_text (rfc1123_date moment) ≡ true)
seconds_are_plain year month day hour minute second h k l =
    let small = small_parts year month day hour minute second h k l in
    rw (printed_words year month day hour minute second)
    (words_are_plain (weekday_number (days_from_civil (pos year) month day)) (month - 1) day year hour minute second (weekday_number_bound (days_from_civil (pos year) month day))
    (omega arith) (omega arith) (omega arith) (omega arith) (omega arith) (omega arith))

-- the printed date of a plain time parses as that time
pub date_back : (moment : Moment) → is_plain_moment moment ≡ true → cookie_date (rfc1123_date moment) ≡ Some moment
date_back moment h = of_plain (λ m. cookie_date (rfc1123_date m) ≡ Some m) seconds_back moment h

-- and is a plain string
pub date_is_plain : (moment : Moment) → is_plain_moment moment ≡ true → is_plain_text (rfc1123_date moment) ≡ true
date_is_plain moment h = of_plain (λ m. is_plain_text (rfc1123_date m) ≡ true) seconds_are_plain moment h
