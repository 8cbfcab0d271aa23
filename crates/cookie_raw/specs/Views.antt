-- What contracts see of an `Expiration`, which holds a `DateTime` of `jiff`, and of a stored Max-Age.
use Rattle.std.specs.Prelude.{ℤ, pos, ◌+ℤ◌, ◌*ℤ◌, Option, option_map}
use Rattle.cookie_words.specs.Moments.{moment_of}
use Rattle.cookie_raw.specs.Raw.{ExpiresValue, At, Session}
use Rattle.cookie_raw.specs.declared.expiration.Expiration.{Expiration}
use Rattle.cookie_raw.specs.declared.expiration.Expiration.TheVariants as expiration
use Rattle.cookie_raw.specs.declared.max_age.MaxAge.{MaxAge}

-- an `Expiration` as contracts see it
abbrev pub expires_value : Expiration → ExpiresValue
expires_value (expiration.DateTime moment) = At (moment_of moment)
expires_value expiration.Session = Session

-- a stored Max-Age in nanoseconds
abbrev pub max_age_nanos : MaxAge → Option ℤ
max_age_nanos age = option_map (λ nanos. age.secs *ℤ pos 1_000_000_000 +ℤ nanos) age.nanos
