-- What the draft checks of a Set-Cookie header value, draft-ietf-httpbis-rfc6265bis 5.6 and 5.7.
use Rattle.std.specs.Prelude.{◌≡◌, ℕ, ◌+◌, ◌==◌, Bool, true, not, ◌&&◌, ◌||◌, nat_lt, List, length, Option, Some, None, Result, Ok, Err, if◌then◌else◌}
use Rattle.std.specs.List.{list_all, list_any}
use Rattle.std.specs.Result.{result_map_both}
use Rattle.url.specs.Parts.{Parts}
use Rattle.cookie_words.specs.Moments.{Moment}
use Rattle.cookie_raw.specs.Raw.{Raw}
use Rattle.cookie_raw.specs.Rfc6265bis.{reading_by}
use Rattle.cookie_raw.specs.declared.error.RawCookieParseError.{RawCookieParseError}
use Rattle.cookie_raw.specs.declared.syntax.Syntax.TheVariants.{Rfc6265bis}
use Rattle.cookie_parts.specs.Cookie.{Row, and_then, cookie_of, early}
use Rattle.cookie_parts.specs.declared.cookie_error.CookieError.{CookieError}
use Rattle.cookie_parts.specs.declared.cookie_error.CookieError.TheVariants.{DomainMismatch, Parse}
use Rattle.cookie_strict.specs.declared.error.StrictError.{StrictError}
use Rattle.cookie_strict.specs.declared.error.StrictError.TheVariants.{ControlCharacter, TooLong, Cookie}

-- 5.6 step 1: the byte is a control character other than HTAB: %x00-08, %x0A-1F or %x7F
abbrev pub is_control : ℕ → Bool
is_control b = nat_lt b 32 && not (b == 9) || (b == 127)

-- 5.6 step 1: the header value has such a character
abbrev pub has_control : List ℕ → Bool
has_control text = list_any is_control text

-- 5.6: the name and the value together are longer than 4,096 bytes
abbrev pub is_too_long : Raw → Bool
is_too_long raw = nat_lt 4096 (length raw.name + length raw.value)

-- the byte is a visible ASCII character
abbrev pub is_visible : ℕ → Bool
is_visible b = nat_lt 32 b && nat_lt b 127

-- 5.6.3, 5.7: the Domain attribute, without its dot, has only visible ASCII characters, as the name of a host has
abbrev pub has_visible_domain : Raw → Bool
has_visible_domain raw = elim raw.domain [ None ↦ true | Some domain ↦ list_all is_visible domain ]

-- 5.6 and 5.7: the error of a name and a value: a control character, or both together are too long
abbrev pub pair_error : Raw → Option StrictError
pair_error raw =
    if has_control raw.name || has_control raw.value then Some ControlCharacter
    else (if is_too_long raw then Some TooLong else None)

-- 5.7: the error of a Domain attribute that no host has
abbrev pub domain_error : Raw → Option StrictError
domain_error raw = if has_visible_domain raw then None else Some (Cookie DomainMismatch)

-- the first of two errors
abbrev pub first_error : Option StrictError → Option StrictError → Option StrictError
first_error None second = second
first_error (Some error) second = Some error

-- the error of a header value that the draft reads so
abbrev pub reading_error : Result Raw RawCookieParseError → Option StrictError
reading_error (Ok raw) = first_error (pair_error raw) (domain_error raw)
reading_error (Err error) = Some (Cookie Parse)

-- the error that is found before the URL is looked at: a control character, no cookie, a cookie that is too long, or a
-- Domain attribute that no host has
abbrev pub header_error : List ℕ → Option StrictError
header_error text = if has_control text then Some ControlCharacter else reading_error (reading_by Rfc6265bis text)

-- the header value is not rejected early: neither with `header_error` nor with `early`
abbrev pub PassesEarlyChecks : List ℕ → Parts → Type 0
PassesEarlyChecks text url = (header_error text ≡ None) × (early (reading_by Rfc6265bis text) url ≡ None)

-- 5.6, RFC 6265 5.3: the cookie of a header value received from the URL, or the store's error
abbrev pub draft_cookie : List ℕ → Parts → Moment → Result Row CookieError
draft_cookie text url now =
    and_then (result_map_both (λ raw. raw) (λ _. Parse) (reading_by Rfc6265bis text)) (λ raw. cookie_of raw url now)

-- the same, or the error that is found before
abbrev pub strict_cookie : List ℕ → Parts → Moment → Result Row StrictError
strict_cookie text url now = elim (header_error text) [
  | Some error ↦ Err error
  | None ↦ result_map_both (λ cookie. cookie) Cookie (draft_cookie text url now)
]
