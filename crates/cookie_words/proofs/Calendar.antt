-- The date and time of a number of nanoseconds.
use Rattle.std.proofs.Common.{◌≡◌, ℕ, zero, suc, ◌+◌, ◌-◌, ◌*◌, ◌/◌, ◌%◌, ◌<◌, ◌≤◌, Bool, true, false, ◌≢◌, ⊎_elim, refl, sym, ap, ◌∙◌, arith, T, ℤ, pos, ◌+ℤ◌, ◌-ℤ◌, ◌*ℤ◌, ◌≤ℤ◌, ◌<ℤ◌, int_le, unsigned_abs}
use Rattle.std.specs.Int.{int_div_euclid, int_rem_euclid}
use Rattle.std.proofs.lemmas.Bool.{cases_lt}
use borrow.Author.Differences.{up, down, le-true}
use Rattle.jiff_core.specs.declared.civil.datetime.DateTime.{DateTime}
use Rattle.jiff_core.specs.Calendar.{days_from_civil, IsCivilDate}
use Rattle.jiff_core.proofs.SignedLemmas.{signed_arith}
use Rattle.jiff_core.proofs.CalendarLemmas.{days_from_civil-day_count, day_count-lt_year, day_count-lt_month, day_count-day, day_count-day_of_year}
use Rattle.jiff_core.proofs.DateLemmas.{civil}
use Rattle.cookie_words.specs.Moments.{moment_of, moment_at, nanoseconds, greatest, year_of_day, month_of_day, moment_of_day}

-- the greatest number that passes the test
greatest_is : (test : ℕ → Bool) (n k : ℕ) → k ≤ n → (1 ≤ k → test k ≡ true) → ((j : ℕ) → k < j → j ≤ n → test j ≡ false) → greatest test n ≡ k
greatest_is test zero k within passes fails = omega arith
greatest_is test (suc n) k within passes fails =
    ⊎_elim
    (λ (l : k < suc n). rw (fails (suc n) l (omega arith)) (greatest_is test n k (omega arith) passes (λ j above up. fails j above (omega arith))))
    (λ (l : suc n ≤ k). let e : k ≡ suc n = omega arith in rw (sym e, passes (omega arith)) refl)
    (cases_lt k (suc n))

-- a test that holds is true
holds : (x : Bool) → T x → x ≡ true
holds true t = refl
holds false t = absurd t

-- a test that does not hold is false
fails : (x : Bool) → x ≢ true → x ≡ false
fails true h = absurd (h refl)
fails false h = refl

-- int_le is true if a <= b
le_yes : (a b : ℤ) → a ≤ℤ b → int_le a b ≡ true
le_yes a b h = holds (int_le a b) h.le

-- int_le is false if a > b
le_no : (a b : ℤ) → b <ℤ a → int_le a b ≡ false
le_no a b h = fails (int_le a b) (λ e. omega (arith, signed_arith, le-true a b e))

-- the year of a day is the year it was computed from
year_back : (year : ℤ) (month day : ℕ) → IsCivilDate year month day → year_of_day (days_from_civil year month day) ≡ year
year_back year month day h =
    let n = up year + 10000 - down year in
    let place : year ≡ pos n -ℤ pos 10_000 = omega (arith, signed_arith, h.0) in
    let test : ℕ → Bool = λ k. int_le (days_from_civil (pos k -ℤ pos 10_000) 1 1) (days_from_civil year month day) in
    let found = greatest_is test 19_999 n (omega (arith, signed_arith, h.0))
    (λ _. rw (← place) (le_yes (days_from_civil year 1 1) (days_from_civil year month day) (omega (arith, signed_arith, days_from_civil-day_count, day_count-day_of_year year month day h.2.0))))
    (λ k above within. le_no (days_from_civil (pos k -ℤ pos 10_000) 1 1) (days_from_civil year month day) (omega (arith, signed_arith, days_from_civil-day_count, day_count-lt_year year month day (pos k -ℤ pos 10_000) 1 1 h (omega arith) (omega (arith, signed_arith))))) in
    ap (λ k. pos k -ℤ pos 10_000) found ∙ sym place

-- so is its month
month_back : (year : ℤ) (month day : ℕ) → IsCivilDate year month day → month_of_day year (days_from_civil year month day) ≡ month
month_back year month day h =
    greatest_is (λ m. int_le (days_from_civil year m 1) (days_from_civil year month day)) 12 month h.1.1
    (λ _. le_yes (days_from_civil year month 1) (days_from_civil year month day)
    (omega (arith, signed_arith, h.2.0, days_from_civil-day_count, day_count-day year month 1 day (omega arith) h.2.0)))
    (λ m above within. le_no (days_from_civil year m 1) (days_from_civil year month day)
    (omega (arith, signed_arith, days_from_civil-day_count, day_count-lt_month year month day m 1 h (omega arith) above)))

-- and its day of the month
day_back : (year : ℤ) (month day : ℕ) → 1 ≤ day → unsigned_abs (days_from_civil year month day -ℤ days_from_civil year month 1) + 1 ≡ day
day_back year month day h =
    let later : days_from_civil year month day -ℤ days_from_civil year month 1 ≡ pos (day - 1) =
    omega (arith, signed_arith, days_from_civil-day_count, day_count-day year month 1 day (omega arith) h) in
    ap (λ z. unsigned_abs z + 1) later ∙ omega arith

-- so are date and time of a day and of nanoseconds since its start
of_day_back : (year : ℤ) (month day hour minute second nanosecond : ℕ) → IsCivilDate year month day
    → minute < 60 → second < 60 → nanosecond < 1_000_000_000
    → moment_of_day (days_from_civil year month day) ((hour * 3600 + minute * 60 + second) * 1_000_000_000 + nanosecond)
    ≡ record { year = year; month = month; day = day; hour = hour; minute = minute; second = second; nanosecond = nanosecond }
of_day_back year month day hour minute second nanosecond date m s n =
    let time = (hour * 3600 + minute * 60 + second) * 1_000_000_000 + nanosecond in
    let hours : time / 3_600_000_000_000 ≡ hour = omega arith in
    let minutes : time / 60_000_000_000 % 60 ≡ minute = omega arith in
    let seconds : time / 1_000_000_000 % 60 ≡ second = omega arith in
    let rest : time % 1_000_000_000 ≡ nanosecond = omega arith in
    rw (year_back year month day date, month_back year month day date, day_back year month day date.2.0, hours, minutes, seconds, rest) refl

-- the day of a number of nanoseconds
days_back : (day : ℤ) (time : ℕ) → time < 86_400_000_000_000 → int_div_euclid (day *ℤ pos 86_400_000_000_000 +ℤ pos time) (pos 86_400_000_000_000) ≡ day
days_back day time h = omega (arith, signed_arith)

-- the nanoseconds since the start of that day
time_back : (day : ℤ) (time : ℕ) → time < 86_400_000_000_000
    → unsigned_abs (int_rem_euclid (day *ℤ pos 86_400_000_000_000 +ℤ pos time) (pos 86_400_000_000_000)) ≡ time
time_back day time h = omega (arith, signed_arith)

-- converting a time to nanoseconds and back gives that time
fields_back : (year : ℤ) (month day hour minute second nanosecond : ℕ) → IsCivilDate year month day
    → hour < 24 → minute < 60 → second < 60 → nanosecond < 1_000_000_000
    → moment_at (nanoseconds (record { year = year; month = month; day = day; hour = hour; minute = minute; second = second; nanosecond = nanosecond }))
    ≡ record { year = year; month = month; day = day; hour = hour; minute = minute; second = second; nanosecond = nanosecond }
unfolding moment_at nanoseconds
fields_back year month day hour minute second nanosecond date h m s n =
    let time = (hour * 3600 + minute * 60 + second) * 1_000_000_000 + nanosecond in
    let small : time < 86_400_000_000_000 = omega arith in
    ap
    (λ day_number. moment_of_day day_number
    (unsigned_abs (int_rem_euclid (days_from_civil year month day *ℤ pos 86_400_000_000_000 +ℤ pos time) (pos 86_400_000_000_000))))
    (days_back (days_from_civil year month day) time small)
    ∙ ap (moment_of_day (days_from_civil year month day)) (time_back (days_from_civil year month day) time small)
    ∙ of_day_back year month day hour minute second nanosecond date m s n

-- the same for a `DateTime` of `jiff`
pub moment_back : (d : DateTime) → moment_at (nanoseconds (moment_of d)) ≡ moment_of d
moment_back d =
    fields_back d.date.year d.date.month d.date.day d.time.hour d.time.minute d.time.second d.time.subsec_nanosecond (civil d.date)
    d.time.hour_in d.time.minute_in d.time.second_in d.time.subsec_in
