-- The row of the table `cookies` that a cookie is written as.
use Rattle.std.specs.Prelude.{Bool, List, [], ◌∷◌, int_div, ℤ, pos, Option, Some, None, if◌then◌else◌}
use Rattle.sqlite_value.specs.declared.value.Value.{Value}
use Rattle.sqlite_value.specs.declared.value.Value.TheVariants.{Null, Int, Text}
use Rattle.sqlite_value.specs.Order.{Row}
use Rattle.cookie_words.specs.Moments.{Moment}
use Rattle.cookie_raw.specs.Raw.{Raw, ExpiresValue, At, Session}
use Rattle.cookie_raw.specs.declared.same_site.SameSite.{SameSite}
use Rattle.cookie_raw.specs.declared.same_site.SameSite.TheVariants as Site
use Rattle.cookie_forms.specs.MomentText.{moment_text}
use Rattle.cookie_parts.specs.Cookie as Cookie
use Rattle.cookie_parts.specs.Domain.{domain_text, kind_of}
use Rattle.cookie_parts.specs.Expiry.{Expiry, AtUtc, SessionEnd}

-- the value of a part, NULL if it is absent
abbrev pub or_null : {T : Type 0} → (T → Value) → Option T → Value
or_null value None = Null
or_null value (Some part) = value part

-- 0 or 1
abbrev pub flag_value : Bool → Value
flag_value is_set = Int (pos (if is_set then 1 else 0))

-- 0, 1 and 2, as Firefox numbers them
abbrev pub site_value : SameSite → Value
site_value Site.None = Int (pos 0)
site_value Site.Lax = Int (pos 1)
site_value Site.Strict = Int (pos 2)

-- a time as `2026-01-31T23:59:59Z`
unfoldable pub time_value : Moment → Value
time_value moment = Text (moment_text moment)

-- NULL for a session cookie
abbrev pub expiry_value : Expiry → Value
expiry_value (AtUtc end) = time_value end
expiry_value SessionEnd = Null

-- a Max-Age in seconds
abbrev pub age_value : ℤ → Value
age_value nanoseconds = Int (int_div nanoseconds (pos 1_000_000_000))

-- the Expires attribute: a time, or the empty string for the end of the session
abbrev pub attribute_value : ExpiresValue → Value
attribute_value (At end) = time_value end
attribute_value Session = Text []

-- the values of the attributes
abbrev pub attributes : Raw → List Value
attributes raw =
    or_null flag_value raw.secure ∷ or_null flag_value raw.http_only ∷ or_null site_value raw.same_site
    ∷ or_null Text raw.domain ∷ or_null Text raw.path
    ∷ or_null age_value raw.max_age ∷ or_null attribute_value raw.expires ∷ []

-- the values of a cookie in the order of the table's columns
abbrev pub columns : Cookie.Row → List Value
columns cookie =
    Text (domain_text cookie.domain) ∷ Int (pos (kind_of cookie.domain))
    ∷ Text cookie.path.text ∷ flag_value cookie.path.is_from_attribute
    ∷ Text cookie.raw.name ∷ Text cookie.raw.value ∷ expiry_value cookie.expires
    ∷ attributes cookie.raw

-- a row of the table: the rowid, the NULL that SQLite stores in the column of the rowid, and the cookie
abbrev pub table_row : ℤ → Cookie.Row → Row
table_row id cookie = Int id ∷ Null ∷ columns cookie
