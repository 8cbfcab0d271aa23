-- A cookie with its times cut to whole seconds, as a row of the table holds it.
use Rattle.std.specs.Prelude.{◌||◌, Bool, false, int_div, int_lt, ℤ, pos, ◌*ℤ◌, option_map, unwrap_or}
use Rattle.cookie_words.specs.Moments.{Moment}
use Rattle.cookie_raw.specs.Raw.{ExpiresValue, At, Session}
use Rattle.cookie_forms.specs.MomentText.{whole_seconds}
use Rattle.cookie_parts.specs.Cookie.{Row}
use Rattle.cookie_parts.specs.Expiry.{Expiry, AtUtc, SessionEnd}

-- the expiry in whole seconds
abbrev pub expiry_in_seconds : Expiry → Expiry
expiry_in_seconds (AtUtc end) = AtUtc (whole_seconds end)
expiry_in_seconds SessionEnd = SessionEnd

-- an Expires attribute in whole seconds
abbrev pub attribute_in_seconds : ExpiresValue → ExpiresValue
attribute_in_seconds (At end) = At (whole_seconds end)
attribute_in_seconds Session = Session

-- a Max-Age in whole seconds
abbrev pub age_in_seconds : ℤ → ℤ
age_in_seconds nanoseconds = int_div nanoseconds (pos 1_000_000_000) *ℤ pos 1_000_000_000

-- the cookie with its expiry, Max-Age and Expires in whole seconds; those of a parsed header value have no fraction
abbrev pub in_whole_seconds : Row → Row
in_whole_seconds cookie = record cookie {
  raw = record cookie.raw {
    max_age = option_map age_in_seconds cookie.raw.max_age;
    expires = option_map attribute_in_seconds cookie.raw.expires;
  };
  expires = expiry_in_seconds cookie.expires;
}

-- the time is before the year 0, so it has no string form
abbrev pub is_early : Moment → Bool
is_early moment = int_lt moment.year (pos 0)

-- the expiry is before the year 0
abbrev pub is_early_expiry : Expiry → Bool
is_early_expiry (AtUtc end) = is_early end
is_early_expiry SessionEnd = false

-- the Expires attribute is before the year 0
abbrev pub is_early_attribute : ExpiresValue → Bool
is_early_attribute (At end) = is_early end
is_early_attribute Session = false

-- the expiry or the Expires attribute is before the year 0
abbrev pub has_early_time : Row → Bool
has_early_time cookie =
    is_early_expiry cookie.expires || unwrap_or (option_map is_early_attribute cookie.raw.expires) false
