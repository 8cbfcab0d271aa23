-- The string of a time is UTF-8.
use Rattle.std.proofs.Common.{◌≡◌, ◌<◌, ◌≤◌, ◌+◌, ◌/◌, ◌%◌, ℕ, ℤ, pos, negsuc, List, ◌++◌, true, unsigned_abs, codes, refl, arith}
use Rattle.std.proofs.lemmas.Bool.Decides.{nat_tests}
use Rattle.std.proofs.lemmas.Str.{IsUtf8-append}
use Rattle.std.specs.Char.{is_ascii}
use Rattle.std.specs.List.{list_all}
use Rattle.std.specs.Str.{IsUtf8}
use Rattle.jiff_core.specs.Calendar.{IsYear}
use Rattle.jiff_core.proofs.CalendarLemmas.{days_in_month_bounds}
use Rattle.jiff_core.proofs.SignedLemmas.{signed_arith}
use Rattle.jiff.specs.declared.civil.datetimes.DateTime.{DateTime}
use Rattle.cookie_words.specs.Moments.{moment_of}
use Rattle.cookie_forms.specs.MomentText.{moment_text, date_text, clock_text, two_digits, four_digits}
use Rattle.cookie_ron.proofs.HasRule.{ascii_utf8}

digit : (k : ℕ) → k ≤ 9 → is_ascii (48 + k) ≡ true
digit k small = grind (arith, nat_tests)

two_ascii : (n : ℕ) → n < 100 → list_all is_ascii (two_digits n) ≡ true
two_ascii n small =
    let high : n / 10 ≤ 9 = omega arith in
    let low : n % 10 ≤ 9 = omega arith in
    rw (digit (n / 10) high, digit (n % 10) low) refl

two : (n : ℕ) → n < 100 → IsUtf8 (two_digits n)
two n small = ascii_utf8 (two_digits n) (two_ascii n small)

four : (n : ℕ) → n < 10_000 → IsUtf8 (four_digits n)
four n small = IsUtf8-append (two_digits (n / 100)) (two_digits (n % 100)) (two (n / 100) (omega arith)) (two (n % 100) (omega arith))

-- three strings with a separator between them
three : (a b c token : List ℕ) → IsUtf8 a → IsUtf8 b → IsUtf8 c → IsUtf8 token → IsUtf8 (a ++ token ++ b ++ token ++ c)
three a b c token is_a is_b is_c is_sign =
    IsUtf8-append (a ++ token ++ b ++ token) c
    (IsUtf8-append (a ++ token ++ b) token (IsUtf8-append (a ++ token) b (IsUtf8-append a token is_a is_sign) is_b) is_sign) is_c

fields_utf8 : (year month day hour minute second : ℕ) → year < 10_000 → month < 100 → day < 100 → hour < 100 → minute < 100 → second < 100
    → IsUtf8 (date_text year month day ++ codes "T" ++ clock_text hour minute second ++ codes "Z")
fields_utf8 year month day hour minute second y mo d h mi s =
    let date = three (four_digits year) (two_digits month) (two_digits day) (codes "-") (four year y) (two month mo) (two day d) (ascii_utf8 (codes "-") refl) in
    let clock = three (two_digits hour) (two_digits minute) (two_digits second) (codes ":") (two hour h) (two minute mi) (two second s) (ascii_utf8 (codes ":") refl) in
    IsUtf8-append (date_text year month day ++ codes "T" ++ clock_text hour minute second) (codes "Z")
    (IsUtf8-append (date_text year month day ++ codes "T") (clock_text hour minute second)
    (IsUtf8-append (date_text year month day) (codes "T") date (ascii_utf8 (codes "T") refl)) clock)
    (ascii_utf8 (codes "Z") refl)

small_year : (z : ℤ) → IsYear z → unsigned_abs z < 10_000
small_year (pos n) h = omega (arith, signed_arith, h)
small_year (negsuc n) h = omega (arith, signed_arith, h)

pub moment_utf8 : (d : DateTime) → IsUtf8 (moment_text (moment_of d))
moment_utf8 d =
    fields_utf8 (unsigned_abs d.date.year) d.date.month d.date.day d.time.hour d.time.minute d.time.second
    (small_year d.date.year d.date.year_in) (omega (arith, d.date.month_in)) (omega (arith, days_in_month_bounds d.date.year d.date.month, d.date.day_in))
    (omega (arith, d.time.hour_in)) (omega (arith, d.time.minute_in)) (omega (arith, d.time.second_in))
