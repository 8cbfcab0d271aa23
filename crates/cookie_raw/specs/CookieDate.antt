-- The cookie-date, RFC 6265 5.1.1.
use Rattle.std.specs.Prelude.{ℕ, suc, ◌+◌, ◌==◌, Bool, not, ◌&&◌, ◌||◌, List, [], ◌∷◌, length, take, drop, filter, filter_map, position, codes, nat_eq, nat_le, Option, Some, None, is_some, option_map, pos, if◌then◌else◌}
use Rattle.std.specs.Char.{is_ascii_digit}
use Rattle.std.specs.List.{prefix_len, slice_split, starts_with}
use Rattle.std.specs.Str.{str_eq_ignore_ascii_case}
use Rattle.std.specs.Str.Parse.{digits_value}
use Rattle.cookie_words.specs.Moments.{Moment, is_within, is_day, is_time, moment_of_fields}
use Rattle.cookie_words.specs.Steps.{◌>>=◌}

-- `delimiter`: a tab, or printable ASCII other than letters, digits and `:`
abbrev pub is_delimiter : ℕ → Bool
is_delimiter b =
    b == 9 || is_within 32 47 b || is_within 59 64 b || is_within 91 96 b || is_within 123 126 b

-- step 1: the date-tokens, the longest runs of non-delimiters
abbrev pub tokens : List ℕ → List (List ℕ)
tokens text = filter (λ token. not (length token == 0)) (slice_split is_delimiter text)

-- a number of `least` to `most` digits at the start, not followed by a digit, and the rest of the string
unfoldable pub number_at : ℕ → ℕ → List ℕ → Option (ℕ × List ℕ)
number_at least most text =
    let digits = prefix_len is_ascii_digit text in
    if is_within least most digits then Some (digits_value 10 (take digits text), drop digits text) else None

-- what follows a `:`
unfoldable pub after_colon : List ℕ → Option (List ℕ)
after_colon text = if starts_with nat_eq text (codes ":") then Some (drop 1 text) else None

-- the `time` of a date, which may be out of range
pub record TimeParts : Type 0 where
  pub hour : ℕ
  pub minute : ℕ
  pub second : ℕ

-- `time`: three numbers of one or two digits, separated by `:`
unfoldable pub time_of : List ℕ → Option TimeParts
time_of token = do
  hour ← number_at 1 2 token
  minutes ← after_colon hour.1
  minute ← number_at 1 2 minutes
  seconds ← after_colon minute.1
  second ← number_at 1 2 seconds
  Some (record { hour = hour.0; minute = minute.0; second = second.0 })

-- `day-of-month`: a number of one or two digits
unfoldable pub day_of : List ℕ → Option ℕ
day_of token = option_map (λ number. number.0) (number_at 1 2 token)

-- the months from January on
abbrev pub month_names : List (List ℕ)
month_names =
    codes "Jan" ∷ codes "Feb" ∷ codes "Mar" ∷ codes "Apr" ∷ codes "May" ∷ codes "Jun"
    ∷ codes "Jul" ∷ codes "Aug" ∷ codes "Sep" ∷ codes "Oct" ∷ codes "Nov" ∷ codes "Dec" ∷ []

-- `month`: named by its first three letters, ignoring case
unfoldable pub month_of : List ℕ → Option ℕ
month_of token = option_map suc (position (λ name. str_eq_ignore_ascii_case (take 3 token) name) month_names)

-- steps 3 and 4: two-digit years
abbrev pub full_year : ℕ → ℕ
full_year year = if nat_le year 69 then year + 2000 else (if nat_le year 99 then year + 1900 else year)

-- `year`: a number of two to four digits
unfoldable pub year_of : List ℕ → Option ℕ
year_of token = option_map (λ number. full_year number.0) (number_at 2 4 token)

-- the first element, if there is one
abbrev pub first : {T : Type 0} → List T → Option T
first [] = None
first (x ∷ xs) = Some x

-- the value of the first token of a form
abbrev pub first_of : {T : Type 0} → (List ℕ → Option T) → List (List ℕ) → Option T
first_of form tokens = first (filter_map form tokens)

-- the tokens except the first of a form
abbrev pub without_first : {T : Type 0} → (List ℕ → Option T) → List (List ℕ) → List (List ℕ)
without_first form [] = []
without_first form (token ∷ tokens) = if is_some (form token) then tokens else token ∷ without_first form tokens

-- the parts of a date, as its tokens give them
pub record DateParts : Type 0 where
  pub time : Option TimeParts
  pub day : Option ℕ
  pub month : Option ℕ
  pub year : Option ℕ

-- step 2: each part is given by the first token of its form; the day's token is not the time's, and the year's is
-- neither the time's nor the day's
abbrev pub parts_of : List (List ℕ) → DateParts
parts_of tokens = record {
  time = first_of time_of tokens;
  day = first_of day_of (without_first time_of tokens);
  month = first_of month_of tokens;
  year = first_of year_of (without_first day_of (without_first time_of tokens));
}

-- steps 5 and 6: None if a part is missing, the year is before 1601, or the day or the time does not exist
unfoldable pub moment_of_parts : DateParts → Option Moment
moment_of_parts parts = do
  time ← parts.time
  day ← parts.day
  month ← parts.month
  year ← parts.year
  if nat_le 1601 year && is_day (pos year) month day && is_time time.hour time.minute time.second
      then Some (moment_of_fields year month day time.hour time.minute time.second 0) else None

-- the time of a cookie-date, in UTC
abbrev pub cookie_date : List ℕ → Option Moment
cookie_date text = moment_of_parts (parts_of (tokens text))
