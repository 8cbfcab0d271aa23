-- The enums of this crate as contracts see them: strings as bytes, `jiff`'s `DateTime`s as `Moment`s.
use Rattle.std.specs.Prelude.{string_bytes}
use Rattle.cookie_words.specs.Moments.{moment_of}
use Rattle.cookie_parts.specs.Domain as Domain
use Rattle.cookie_parts.specs.Domain.{DomainValue}
use Rattle.cookie_parts.specs.Expiry as Expiry
use Rattle.cookie_parts.specs.declared.cookie_domain.CookieDomain.{CookieDomain}
use Rattle.cookie_parts.specs.declared.cookie_domain.CookieDomain.TheVariants.{HostOnly, Suffix, NotPresent, Empty}
use Rattle.cookie_parts.specs.declared.cookie_expiration.CookieExpiration.{CookieExpiration}
use Rattle.cookie_parts.specs.declared.cookie_expiration.CookieExpiration.TheVariants.{AtUtc, SessionEnd}

-- a `CookieDomain` as contracts see it
abbrev pub domain_value : CookieDomain → DomainValue
domain_value (HostOnly text) = Domain.HostOnly (string_bytes text)
domain_value (Suffix text) = Domain.Suffix (string_bytes text)
domain_value NotPresent = Domain.NotPresent
domain_value Empty = Domain.Empty

-- a `CookieExpiration` as contracts see it
abbrev pub expiry_value : CookieExpiration → Expiry.Expiry
expiry_value (AtUtc end) = Expiry.AtUtc (moment_of end)
expiry_value SessionEnd = Expiry.SessionEnd
