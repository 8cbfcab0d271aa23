-- The forms of each token of a printed date.
use Rattle.std.proofs.Common.{◌≡◌, ℕ, suc, ◌+◌, ◌<◌, true, cond, nat_eq, nat_le, List, [], ◌∷◌, ◌++◌, get_or, Option, Some, None, is_none, refl, ap, ◌∙◌, arith}
use Rattle.std.specs.Option.{option_eq}
use Rattle.std.proofs.lemmas.Bool.{false≢true, agree_below_at, cond-false, eqb-true, lt-leb}
use Rattle.cookie_raw.specs.CookieDate.{number_at, after_colon, time_of, day_of, month_of, year_of, month_names, full_year}
use Rattle.cookie_raw.specs.CookieText.{day_names, two_digits, four_digits}
use Rattle.cookie_raw.proofs.DigitsBack.{two_digits_back, four_digits_back, four_are_not_two}

-- an option that is empty
none_where : {T : Type 0} (o : Option T) → is_none o ≡ true → o ≡ None
none_where None h = refl
none_where (Some x) h = absurd (false≢true h)

-- an option that holds a number
some_where : (o : Option ℕ) (n : ℕ) → option_eq nat_eq o (Some n) ≡ true → o ≡ Some n
some_where None n h = absurd (false≢true h)
some_where (Some m) n h = ap (λ k. Some k) (eqb-true m n h)

-- a token without any form: the name of a weekday
pub record IsUnread (token : List ℕ) : Type 0 where
  pub time : time_of token ≡ None
  pub day : day_of token ≡ None
  pub month : month_of token ≡ None
  pub year : year_of token ≡ None

-- a token that is a day of the month and not a time or a month
pub record IsDay (token : List ℕ) (n : ℕ) : Type 0 where
  pub time : time_of token ≡ None
  pub day : day_of token ≡ Some n
  pub month : month_of token ≡ None

-- a token that is a month and not a time or a year
pub record IsMonth (token : List ℕ) (n : ℕ) : Type 0 where
  pub time : time_of token ≡ None
  pub month : month_of token ≡ Some n
  pub year : year_of token ≡ None

-- a token that is a year and not a time
pub record IsYear (token : List ℕ) (n : ℕ) : Type 0 where
  pub time : time_of token ≡ None
  pub year : year_of token ≡ Some n

-- the name of a weekday is not a time
day_name_time : (n : ℕ) → n < 7 → time_of (get_or day_names n []) ≡ None
unfolding time_of number_at
day_name_time n small = none_where _ (agree_below_at (λ m. is_none (time_of (get_or day_names m []))) (λ m. true) 7 n refl small)

-- nor a day
day_name_day : (n : ℕ) → n < 7 → day_of (get_or day_names n []) ≡ None
unfolding day_of number_at
day_name_day n small = none_where _ (agree_below_at (λ m. is_none (day_of (get_or day_names m []))) (λ m. true) 7 n refl small)

-- nor a month
day_name_month : (n : ℕ) → n < 7 → month_of (get_or day_names n []) ≡ None
unfolding month_of
day_name_month n small = none_where _ (agree_below_at (λ m. is_none (month_of (get_or day_names m []))) (λ m. true) 7 n refl small)

-- nor a year
day_name_year : (n : ℕ) → n < 7 → year_of (get_or day_names n []) ≡ None
unfolding year_of number_at
day_name_year n small = none_where _ (agree_below_at (λ m. is_none (year_of (get_or day_names m []))) (λ m. true) 7 n refl small)

-- so it has no form
pub day_name_unread : (n : ℕ) → n < 7 → IsUnread (get_or day_names n [])
day_name_unread n small = record {
  time = day_name_time n small;
  day = day_name_day n small;
  month = day_name_month n small;
  year = day_name_year n small;
}

-- two digits are not a time
two_digits_time : (n : ℕ) → n < 100 → time_of (two_digits n) ≡ None
unfolding time_of after_colon
two_digits_time n small = rw (two_digits_back n [] small refl) refl

-- they are the day
two_digits_day : (n : ℕ) → n < 100 → day_of (two_digits n) ≡ Some n
unfolding day_of
two_digits_day n small = rw (two_digits_back n [] small refl) refl

-- and not a month
two_digits_month : (n : ℕ) → n < 100 → month_of (two_digits n) ≡ None
unfolding month_of
two_digits_month n small = none_where _ (agree_below_at (λ m. is_none (month_of (two_digits m))) (λ m. true) 100 n refl small)

-- so they give the day
pub two_digits_are_day : (n : ℕ) → n < 100 → IsDay (two_digits n) n
two_digits_are_day n small = record {
  time = two_digits_time n small;
  day = two_digits_day n small;
  month = two_digits_month n small;
}

-- the name of a month is not a time
month_name_time : (n : ℕ) → n < 12 → time_of (get_or month_names n []) ≡ None
unfolding time_of number_at
month_name_time n small = none_where _ (agree_below_at (λ m. is_none (time_of (get_or month_names m []))) (λ m. true) 12 n refl small)

-- it is the month
month_name_month : (n : ℕ) → n < 12 → month_of (get_or month_names n []) ≡ Some (suc n)
unfolding month_of
month_name_month n small =
    some_where _ (suc n) (agree_below_at (λ m. option_eq nat_eq (month_of (get_or month_names m [])) (Some (suc m))) (λ m. true) 12 n refl small)

-- and not a year
month_name_year : (n : ℕ) → n < 12 → year_of (get_or month_names n []) ≡ None
unfolding year_of number_at
month_name_year n small = none_where _ (agree_below_at (λ m. is_none (year_of (get_or month_names m []))) (λ m. true) 12 n refl small)

-- so it gives the month
pub month_name_is_month : (n : ℕ) → n < 12 → IsMonth (get_or month_names n []) (suc n)
month_name_is_month n small = record {
  time = month_name_time n small;
  month = month_name_month n small;
  year = month_name_year n small;
}

-- four digits are not a time
four_digits_time : (n : ℕ) → n < 10000 → time_of (four_digits n) ≡ None
unfolding time_of
four_digits_time n small = rw (four_are_not_two n small) refl

-- a year from 100 on is not expanded
full_year_itself : (n : ℕ) → 99 < n → full_year n ≡ n
full_year_itself n large =
    cond-false (nat_le n 69) (n + 2000) (cond (nat_le n 99) (n + 1900) n) (lt-leb n 69 (omega arith)) ∙ cond-false (nat_le n 99) (n + 1900) n (lt-leb n 99 large)

-- four digits are the year
four_digits_year : (n : ℕ) → 99 < n → n < 10000 → year_of (four_digits n) ≡ Some n
unfolding year_of
four_digits_year n large small = rw (four_digits_back n small) (ap (λ y. Some y) (full_year_itself n large))

-- so they give the year
pub four_digits_are_year : (n : ℕ) → 99 < n → n < 10000 → IsYear (four_digits n) n
four_digits_are_year n large small = record { time = four_digits_time n small; year = four_digits_year n large small }

-- a printed time of day
abbrev pub clock_text : ℕ → ℕ → ℕ → List ℕ
clock_text hour minute second = two_digits hour ++ 58 ∷ (two_digits minute ++ 58 ∷ two_digits second)

-- it gives the time
pub clock_back : (hour minute second : ℕ) → hour < 100 → minute < 100 → second < 100
    → time_of (clock_text hour minute second) ≡ Some (record { hour = hour; minute = minute; second = second })
unfolding time_of after_colon
clock_back hour minute second h m s =
    rw (two_digits_back hour (58 ∷ (two_digits minute ++ 58 ∷ two_digits second)) h refl, two_digits_back minute (58 ∷ two_digits second) m refl, two_digits_back second [] s refl) refl
