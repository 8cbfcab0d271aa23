-- How long a cookie may last, draft-ietf-httpbis-rfc6265bis 5.5.
use Rattle.std.specs.Prelude.{ℕ, if◌then◌else◌}
use Rattle.cookie_words.specs.Moments.{Moment}
use Rattle.cookie_raw.specs.SetCookie.{of_seconds}
use Rattle.cookie_parts.specs.Cookie.{Row}
use Rattle.cookie_parts.specs.Expiry.{Expiry, AtUtc, SessionEnd, expiry_of_max_age, has_passed}

-- 400 days in seconds
abbrev pub longest_age : ℕ
longest_age = 34_560_000

-- 400 days from `now`
abbrev pub longest_expiry : Moment → Expiry
longest_expiry now = expiry_of_max_age (of_seconds longest_age) now

-- 5.5: the expiry, at most 400 days from `now`
abbrev pub limited_expiry : Moment → Expiry → Expiry
limited_expiry now (AtUtc end) = if has_passed end (longest_expiry now) then longest_expiry now else AtUtc end
limited_expiry now SessionEnd = SessionEnd

-- 5.5: the cookie, which expires at most 400 days from `now`
abbrev pub limited_cookie : Moment → Row → Row
limited_cookie now cookie = record cookie { expires = limited_expiry now cookie.expires }
