-- Raw cookies that survive printing and parsing.
use Rattle.std.specs.Prelude.{ℕ, ◌/◌, ◌%◌, ◌==◌, Bool, true, false, not, ◌&&◌, ◌||◌, List, length, codes, nat_eq, nat_le, bytes_eq, ℤ, pos, negsuc, Option, Some, None, unwrap_or}
use Rattle.std.specs.List.{list_any, starts_with}
use Rattle.std.specs.Str.{trim}
use Rattle.cookie_words.specs.Moments.{Moment, is_within, is_day, is_time}
use Rattle.cookie_raw.specs.CookieText.{is_for_all_sites}
use Rattle.cookie_raw.specs.Raw.{Raw, ExpiresValue, At, Session}
use Rattle.cookie_raw.specs.SetCookie.{is_equals, is_semicolon}

-- the part is absent or passes the test
abbrev pub if_present : {T : Type 0} → (T → Bool) → Option T → Bool
if_present test None = true
if_present test (Some part) = test part

-- has no `;`, and no white space at either end
unfoldable pub is_plain_text : List ℕ → Bool
is_plain_text text = not (list_any is_semicolon text) && bytes_eq (trim text) text

-- besides, is not empty and has no `=`
unfoldable pub is_plain_name : List ℕ → Bool
is_plain_name name = not (length name == 0) && not (list_any is_equals name) && is_plain_text name

-- besides, is not empty and has no leading dot
unfoldable pub is_plain_domain : List ℕ → Bool
is_plain_domain domain =
    not (length domain == 0) && not (starts_with nat_eq domain (codes ".")) && is_plain_text domain

-- whole seconds from 0 to 2^63 - 1
abbrev pub is_plain_age : ℤ → Bool
is_plain_age (pos nanoseconds) =
    (nanoseconds % 1_000_000_000 == 0) && nat_le (nanoseconds / 1_000_000_000) 9_223_372_036_854_775_807
is_plain_age (negsuc _) = false

-- 1601 to 9999
abbrev pub is_plain_year : ℤ → Bool
is_plain_year (pos year) = is_within 1601 9999 year
is_plain_year (negsuc _) = false

-- an existing time in whole seconds, in such a year
abbrev pub is_plain_moment : Moment → Bool
is_plain_moment moment =
    is_plain_year moment.year && is_day moment.year moment.month moment.day
    && is_time moment.hour moment.minute moment.second && (moment.nanosecond == 0)

-- an Expires attribute that prints as a time and parses as the same time
abbrev pub is_plain_expires : ExpiresValue → Bool
is_plain_expires (At moment) = is_plain_moment moment
is_plain_expires Session = false

-- all parts are plain, no flag is set to false, and Secure is set if SameSite is `None`
unfoldable pub is_plain : Raw → Bool
is_plain cookie =
    is_plain_name cookie.name && is_plain_text cookie.value
    && if_present is_plain_domain cookie.domain && if_present is_plain_text cookie.path
    && unwrap_or cookie.secure true && unwrap_or cookie.http_only true
    && (not (is_for_all_sites cookie.same_site) || unwrap_or cookie.secure false)
    && if_present is_plain_age cookie.max_age && if_present is_plain_expires cookie.expires
