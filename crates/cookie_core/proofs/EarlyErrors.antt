-- An early rejection is never out of memory.
use Rattle.std.proofs.Common.{◌≡◌, ◌≢◌, arith, refl, Option, Result, Ok, Err, Some, None}
use Rattle.url.specs.Parts.{Parts}
use Rattle.cookie_raw.specs.Raw.{Raw}
use Rattle.cookie_raw.specs.declared.error.RawCookieParseError.{RawCookieParseError}
use Rattle.cookie_parts.specs.Cookie.{early}
use Rattle.cookie_parts.specs.declared.cookie_error.CookieError.{CookieError}
use Rattle.cookie_parts.specs.declared.cookie_error.CookieError.TheVariants.{Memory}

not_memory : (read : Result Raw RawCookieParseError) (url : Parts) → early read url ≢ Some Memory
not_memory (Ok raw) url = grind arith
not_memory (Err rejection) url = grind arith

none_of : {T : Type 0} (rejection : Option CookieError) (result : Result T CookieError) → rejection ≢ Some Memory
    → ((r : CookieError) → rejection ≡ Some r → result ≡ Err r) → result ≡ Err Memory → rejection ≡ None
none_of None result never reported want = refl
none_of (Some r) result never reported want = grind (arith, never, reported r refl, want)

-- if out of memory, the cookie was not rejected early
pub memory_is_not_early : {T : Type 0} (read : Result Raw RawCookieParseError) (url : Parts) (result : Result T CookieError)
    → ((r : CookieError) → early read url ≡ Some r → result ≡ Err r) → result ≡ Err Memory → early read url ≡ None
memory_is_not_early read url result reported want = none_of (early read url) result (not_memory read url) reported want
