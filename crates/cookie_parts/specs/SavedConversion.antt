-- Conversion between a cookie and its saved form.
use Rattle.std.specs.Prelude.{Option, Some, None, Result, Ok}
use Rattle.cookie_words.specs.Moments.{Moment}
use Rattle.cookie_raw.specs.CookieText.{cookie_text}
use Rattle.cookie_forms.specs.Saved as Saved
use Rattle.cookie_parts.specs.Cookie.{Row, and_then, raw_cookie}
use Rattle.cookie_parts.specs.Domain.{DomainValue}
use Rattle.cookie_parts.specs.Domain as Domain
use Rattle.cookie_parts.specs.Expiry.{Expiry, AtUtc, SessionEnd}
use Rattle.cookie_parts.specs.declared.cookie_error.CookieError.{CookieError}

-- the saved form of a domain
abbrev pub saved_domain : DomainValue → Saved.Domain
saved_domain (Domain.HostOnly d) = Saved.host_only d
saved_domain (Domain.Suffix d) = Saved.suffix d
saved_domain Domain.NotPresent = Saved.not_present
saved_domain Domain.Empty = Saved.empty

-- the domain of its saved form
abbrev pub domain_of_saved : Saved.Domain → DomainValue
domain_of_saved (Saved.host_only d) = Domain.HostOnly d
domain_of_saved (Saved.suffix d) = Domain.Suffix d
domain_of_saved Saved.not_present = Domain.NotPresent
domain_of_saved Saved.empty = Domain.Empty

-- the saved form of an expiry: its time, `None` for a session cookie
abbrev pub saved_expires : Expiry → Option Moment
saved_expires (AtUtc end) = Some end
saved_expires SessionEnd = None

-- the expiry of its saved form
abbrev pub expires_of_saved : Option Moment → Expiry
expires_of_saved (Some end) = AtUtc end
expires_of_saved None = SessionEnd

-- the saved form of a cookie: the raw cookie as a Set-Cookie header value, all else unchanged
abbrev pub saved_of : Row → Saved.Parts Moment
saved_of cookie = record {
  raw_cookie = cookie_text cookie.raw;
  path = cookie.path.text;
  from_attr = cookie.path.is_from_attribute;
  domain = saved_domain cookie.domain;
  expires = saved_expires cookie.expires;
}

-- the cookie of a saved form: its header value parsed, or `Parse`, and all else as saved
abbrev pub cookie_of_saved : Saved.Parts Moment → Result Row CookieError
cookie_of_saved saved = and_then (raw_cookie saved.raw_cookie) (λ raw. Ok (record {
  raw = raw;
  domain = domain_of_saved saved.domain;
  path = record { text = saved.path; is_from_attribute = saved.from_attr };
  expires = expires_of_saved saved.expires;
}))
