-- A printed date is plain: printable ASCII without `;` or white space at either end.
use Rattle.std.proofs.Common.{◌≡◌, ℕ, ◌/◌, ◌%◌, ◌<◌, true, nat_lt, List, [], ◌∷◌, ◌++◌, length, get_or, codes, refl, arith}
use Rattle.std.specs.List.{list_all}
use Rattle.std.proofs.lemmas.Bool.{agree_below_at, ltb-true}
use Rattle.cookie_raw.specs.CookieDate.{month_names}
use Rattle.cookie_raw.specs.CookieText.{day_names, two_digits, four_digits}
use Rattle.cookie_raw.specs.PlainCookie.{is_plain_text}
use Rattle.cookie_raw.proofs.AsciiTexts.{is_printing, starts_visibly, ends_visibly, all_of_both, starts_as_first, ends_as_last, digits_are_printing, printing_is_plain}
use Rattle.cookie_raw.proofs.PrintedTokens.{clock_text}
use Rattle.cookie_raw.proofs.PrintedWords.{date_of_words}
use Rattle.cookie_raw.proofs.DigitsBack.{two_are_digits}

-- a date of printable words is printable
words_are_printing : (weekday day month year clock : List ℕ)
    → list_all is_printing weekday ≡ true → list_all is_printing day ≡ true → list_all is_printing month ≡ true → list_all is_printing year ≡ true → list_all is_printing clock ≡ true
    → list_all is_printing (date_of_words weekday day month year clock) ≡ true
words_are_printing weekday day month year clock a b c d e =
    all_of_both is_printing weekday (44 ∷ 32 ∷ (day ++ 32 ∷ (month ++ 32 ∷ (year ++ 32 ∷ (clock ++ 32 ∷ codes "GMT"))))) a
    (all_of_both is_printing day (32 ∷ (month ++ 32 ∷ (year ++ 32 ∷ (clock ++ 32 ∷ codes "GMT")))) b
    (all_of_both is_printing month (32 ∷ (year ++ 32 ∷ (clock ++ 32 ∷ codes "GMT"))) c
    (all_of_both is_printing year (32 ∷ (clock ++ 32 ∷ codes "GMT")) d
    (all_of_both is_printing clock (32 ∷ codes "GMT") e refl))))

-- the name of a day is printable
day_name_is_printing : (n : ℕ) → n < 7 → list_all is_printing (get_or day_names n []) ≡ true
day_name_is_printing n small = agree_below_at (λ m. list_all is_printing (get_or day_names m [])) (λ m. true) 7 n refl small

-- and not empty
day_name_is_there : (n : ℕ) → n < 7 → 0 < length (get_or day_names n [])
day_name_is_there n small =
    ltb-true 0 (length (get_or day_names n [])) (agree_below_at (λ m. nat_lt 0 (length (get_or day_names m []))) (λ m. true) 7 n refl small)

-- and has no white space at its start
day_name_starts_visibly : (n : ℕ) → n < 7 → starts_visibly (get_or day_names n []) ≡ true
day_name_starts_visibly n small = agree_below_at (λ m. starts_visibly (get_or day_names m [])) (λ m. true) 7 n refl small

-- the name of a month is printable
month_name_is_printing : (n : ℕ) → n < 12 → list_all is_printing (get_or month_names n []) ≡ true
month_name_is_printing n small = agree_below_at (λ m. list_all is_printing (get_or month_names m [])) (λ m. true) 12 n refl small

-- two digits are printable
two_digits_are_printing : (n : ℕ) → n < 100 → list_all is_printing (two_digits n) ≡ true
two_digits_are_printing n small = digits_are_printing (two_digits n) (two_are_digits n small)

-- four digits are printable
four_digits_are_printing : (n : ℕ) → n < 10000 → list_all is_printing (four_digits n) ≡ true
four_digits_are_printing n small =
    all_of_both is_printing (two_digits (n / 100)) (two_digits (n % 100)) (two_digits_are_printing (n / 100) (omega arith)) (two_digits_are_printing (n % 100) (omega arith))

-- a time of day is printable
clock_is_printing : (hour minute second : ℕ) → hour < 100 → minute < 100 → second < 100 → list_all is_printing (clock_text hour minute second) ≡ true
clock_is_printing hour minute second h m s =
    all_of_both is_printing (two_digits hour) (58 ∷ (two_digits minute ++ 58 ∷ two_digits second)) (two_digits_are_printing hour h)
    (all_of_both is_printing (two_digits minute) (58 ∷ two_digits second) (two_digits_are_printing minute m) (two_digits_are_printing second s))

-- a printed date has no white space at its end
words_end_visibly : (weekday day month year clock : List ℕ) → ends_visibly (date_of_words weekday day month year clock) ≡ true
words_end_visibly weekday day month year clock =
    ends_as_last weekday 44 (32 ∷ (day ++ 32 ∷ (month ++ 32 ∷ (year ++ 32 ∷ (clock ++ 32 ∷ codes "GMT")))))
    (ends_as_last (44 ∷ 32 ∷ day) 32 (month ++ 32 ∷ (year ++ 32 ∷ (clock ++ 32 ∷ codes "GMT")))
    (ends_as_last (32 ∷ month) 32 (year ++ 32 ∷ (clock ++ 32 ∷ codes "GMT"))
    (ends_as_last (32 ∷ year) 32 (clock ++ 32 ∷ codes "GMT") (ends_as_last (32 ∷ clock) 32 (codes "GMT") refl))))

-- a date of such names and numbers is plain
pub words_are_plain : (weekday month day year hour minute second : ℕ) → weekday < 7 → month < 12 → day < 100 → year < 10000 → hour < 100 → minute < 100 → second < 100
    → is_plain_text (date_of_words (get_or day_names weekday []) (two_digits day) (get_or month_names month []) (four_digits year) (clock_text hour minute second)) ≡ true
words_are_plain weekday month day year hour minute second a b c d e f g =
    let weekday_name : List ℕ = get_or day_names weekday [] in
    let month_name : List ℕ = get_or month_names month [] in
    let clock : List ℕ = clock_text hour minute second in
    printing_is_plain (date_of_words weekday_name (two_digits day) month_name (four_digits year) clock)
    (words_are_printing weekday_name (two_digits day) month_name (four_digits year) clock
    (day_name_is_printing weekday a) (two_digits_are_printing day c) (month_name_is_printing month b) (four_digits_are_printing year d) (clock_is_printing hour minute second e f g))
    (starts_as_first weekday_name (44 ∷ 32 ∷ (two_digits day ++ 32 ∷ (month_name ++ 32 ∷ (four_digits year ++ 32 ∷ (clock ++ 32 ∷ codes "GMT")))))
    (day_name_is_there weekday a) (day_name_starts_visibly weekday a))
    (words_end_visibly weekday_name (two_digits day) month_name (four_digits year) clock)
