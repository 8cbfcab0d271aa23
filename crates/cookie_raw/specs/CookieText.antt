-- A raw cookie as a Set-Cookie header value, RFC 6265 4.1.1.
use Rattle.std.specs.Prelude.{◌≡◌, ℕ, ◌+◌, ◌/◌, ◌%◌, ◌-◌, Bool, true, false, List, [], ◌∷◌, ◌++◌, codes, get_or, nat_le, ℤ, pos, negsuc, int_div, unsigned_abs, Option, Some, None, option_map, option_and_then, unwrap_or, Result, IsOk, if◌then◌else◌}
use Rattle.std.specs.Fmt.{signed_decimal}
use Rattle.jiff_core.specs.Calendar.{days_from_civil, weekday_number}
use Rattle.cookie_words.specs.Moments.{Moment}
use Rattle.cookie_raw.specs.CookieDate.{month_names}
use Rattle.cookie_raw.specs.Raw.{Raw, ExpiresValue, At, Session}
use Rattle.cookie_raw.specs.declared.same_site.SameSite.{SameSite}
use Rattle.cookie_raw.specs.declared.same_site.SameSite.TheVariants as same_site

-- the value of a SameSite attribute
abbrev pub site_text : SameSite → List ℕ
site_text same_site.Strict = codes "Strict"
site_text same_site.Lax = codes "Lax"
site_text same_site.None = codes "None"

-- SameSite is `None`
abbrev pub is_for_all_sites : Option SameSite → Bool
is_for_all_sites (Some same_site.None) = true
is_for_all_sites other = false

-- a number below 100 in two digits
abbrev pub two_digits : ℕ → List ℕ
two_digits n = (48 + n / 10) ∷ (48 + n % 10) ∷ []

-- a number below 10000 in four digits
abbrev pub four_digits : ℕ → List ℕ
four_digits n = two_digits (n / 100) ++ two_digits (n % 100)

-- the days of the week from Monday on
abbrev pub day_names : List (List ℕ)
day_names =
    codes "Mon" ∷ codes "Tue" ∷ codes "Wed" ∷ codes "Thu" ∷ codes "Fri" ∷ codes "Sat" ∷ codes "Sun" ∷ []

-- `Tue, 03 Aug 2100 00:38:37 GMT`, the date format of RFC 1123
unfoldable pub rfc1123_date : Moment → List ℕ
rfc1123_date moment =
    get_or day_names (weekday_number (days_from_civil moment.year moment.month moment.day)) []
    ++ codes ", " ++ two_digits moment.day
    ++ codes " " ++ get_or month_names (moment.month - 1) []
    ++ codes " " ++ four_digits (unsigned_abs moment.year)
    ++ codes " " ++ two_digits moment.hour
    ++ codes ":" ++ two_digits moment.minute
    ++ codes ":" ++ two_digits moment.second
    ++ codes " GMT"

-- the year has at most four digits and is not negative
abbrev pub has_four_digits : ℤ → Bool
has_four_digits (pos year) = nat_le year 9999
has_four_digits (negsuc year) = false

-- the value of Expires, if it is a time whose year has four digits
abbrev pub expires_text : ExpiresValue → Option (List ℕ)
expires_text (At moment) = if has_four_digits moment.year then Some (rfc1123_date moment) else None
expires_text Session = None

-- a Max-Age in whole seconds, the fraction cut off
abbrev pub age_text : ℤ → List ℕ
age_text nanoseconds = signed_decimal (int_div nanoseconds (pos 1_000_000_000))

-- an attribute without a value, if it is set
abbrev pub flag : List ℕ → Bool → List ℕ
flag label is_set = if is_set then label else []

-- an attribute with its value, if there is one
abbrev pub optional : List ℕ → Option (List ℕ) → List ℕ
optional label None = []
optional label (Some value) = label ++ value

-- if there is nothing to write, the result is Ok and the formatter unchanged
abbrev pub WritesNothing : {F E : Type 0} → F → Result (Unit {0}) E → F → Type 0
WritesNothing f result g = IsOk result × (g ≡ f)

-- name and value, then the attributes; with `SameSite=None` Secure is printed unless it is set to false
unfoldable pub cookie_text : Raw → List ℕ
cookie_text cookie =
    cookie.name ++ codes "=" ++ cookie.value
    ++ flag (codes "; HttpOnly") (unwrap_or cookie.http_only false)
    ++ optional (codes "; SameSite=") (option_map site_text cookie.same_site)
    ++ flag (codes "; Secure") (unwrap_or cookie.secure (is_for_all_sites cookie.same_site))
    ++ optional (codes "; Path=") cookie.path
    ++ optional (codes "; Domain=") cookie.domain
    ++ optional (codes "; Max-Age=") (option_map age_text cookie.max_age)
    ++ optional (codes "; Expires=") (option_and_then expires_text cookie.expires)
