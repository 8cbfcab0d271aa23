-- When a cookie expires, RFC 6265 5.2.1, 5.2.2 and 5.3 step 3.
use Rattle.std.specs.Prelude.{Bool, false, Option, Some, None, ℤ, pos, ◌+ℤ◌, int_le, if◌then◌else◌}
use Rattle.std.specs.Cmp.{IsEquivalence, on_equiv, int_eq_equiv}
use Rattle.std.specs.Cmp.Lexicographic.{options_equiv}
use Rattle.std.specs.Int.{int_min}
use Rattle.std.specs.Option.{option_eq}
use Rattle.std.specs.Ordering.{is_le, int_cmp, int_eq, on}
use Rattle.cookie_words.specs.Moments.{Moment, epoch, moment_at, nanoseconds}
use Rattle.cookie_raw.specs.Raw.{Raw, ExpiresValue, At, Session}

-- the expiry-time of a persistent cookie, or a session cookie
pub data Expiry : Type 0 where
  AtUtc : Moment → Expiry
  SessionEnd : Expiry

-- 5.3: the cookie has expired at `now`: its expiry-time is not in the future
abbrev pub has_passed : Moment → Expiry → Bool
has_passed now (AtUtc end) = is_le (int_cmp (nanoseconds end) (nanoseconds now))
has_passed now SessionEnd = false

-- the latest expiry-time that is computed: 9999-12-31T23:59:59
abbrev pub latest : Moment
latest = record { year = pos 9999; month = 12; day = 31; hour = 23; minute = 59; second = 59; nanosecond = 0 }

-- the time n nanoseconds from the epoch, at most `latest`
abbrev pub capped_at_latest : ℤ → Moment
capped_at_latest n = moment_at (int_min n (nanoseconds latest))

-- the expiry at a time, at most `latest`
abbrev pub expiry_at_time : Moment → Expiry
expiry_at_time moment = AtUtc (capped_at_latest (nanoseconds moment))

-- 5.2.2: the expiry of a Max-Age in nanoseconds at `now`: the epoch for zero or less, and at most `latest`
abbrev pub expiry_of_max_age : ℤ → Moment → Expiry
expiry_of_max_age age now = if int_le age (pos 0) then AtUtc epoch else AtUtc (capped_at_latest (nanoseconds now +ℤ age))

-- 5.2.1: the expiry of an Expires attribute
abbrev pub expiry_of_expires : ExpiresValue → Expiry
expiry_of_expires (At moment) = AtUtc moment
expiry_of_expires Session = SessionEnd

-- 5.3 step 3: by Max-Age if there is one, else by Expires, else a session cookie
abbrev pub chosen : Option ℤ → Option ExpiresValue → Moment → Expiry
chosen (Some age) expires_value now = expiry_of_max_age age now
chosen None (Some expires_value) now = expiry_of_expires expires_value
chosen None None now = SessionEnd

-- 5.3 step 3: the expiry of a raw cookie received at `now`
abbrev pub expiry_of : Raw → Moment → Expiry
expiry_of raw now = chosen raw.max_age raw.expires now

-- the expiry cut to whole seconds, in nanoseconds from the epoch
abbrev pub in_seconds : Expiry → Option ℤ
in_seconds (AtUtc moment) = Some (nanoseconds (record moment { nanosecond = 0 }))
in_seconds SessionEnd = None

-- both expire in the same second, or both are session cookies
abbrev pub same_expiry : Expiry → Expiry → Bool
same_expiry = on in_seconds (option_eq int_eq)

-- `same_expiry` is an equivalence
pub same_expiry_equiv : IsEquivalence same_expiry
same_expiry_equiv = on_equiv in_seconds (options_equiv int_eq_equiv)
