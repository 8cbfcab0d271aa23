-- A saved cookie as contracts see it, with its expiry as a time or as that time's string.
use Rattle.std.specs.Prelude.{◌≡◌, ℕ, Bool, List, Option, Some, None, IfSome, string_bytes}
use Rattle.cookie_words.specs.Moments.{Moment, moment_of}
use Rattle.jiff_core.specs.declared.civil.datetime.DateTime.{DateTime}
use Rattle.cookie_forms.specs.declared.saved.Saved.{Saved}
use Rattle.cookie_forms.specs.declared.saved.SavedDomain.{SavedDomain}
use Rattle.cookie_forms.specs.declared.saved.SavedDomain.TheVariants as Kind
use Rattle.cookie_forms.specs.declared.saved.SavedExpiry.{SavedExpiry}
use Rattle.cookie_forms.specs.declared.saved.SavedExpiry.TheVariants as Expiry

-- a host-only cookie, a domain cookie, no Domain attribute, an empty Domain attribute
pub data Domain : Type 0 where
  host_only : List ℕ → Domain
  suffix : List ℕ → Domain
  not_present : Domain
  empty : Domain

-- the parts of a saved cookie; T is the type of an expiry, a time or a string; `None` for a session cookie
pub record Parts (T : Type 0) : Type 0 where
  pub raw_cookie : List ℕ
  pub path : List ℕ
  pub from_attr : Bool
  pub domain : Domain
  pub expires : Option T

-- a valid time: the view of some `DateTime`
abbrev pub IsValidTime : Moment → Type 0
IsValidTime m = (time : DateTime) × (moment_of time ≡ m)

-- the expiry, if there is one, is a valid time
abbrev pub HasValidExpiry : Parts Moment → Type 0
HasValidExpiry p = IfSome p.expires IsValidTime

-- a `SavedDomain` as contracts see it
abbrev pub domain_view : SavedDomain → Domain
domain_view (Kind.HostOnly text) = host_only (string_bytes text)
domain_view (Kind.Suffix text) = suffix (string_bytes text)
domain_view Kind.NotPresent = not_present
domain_view Kind.Empty = empty

-- a `SavedExpiry` as contracts see it, `None` for a session cookie
abbrev pub expiry_view : SavedExpiry → Option Moment
expiry_view (Expiry.AtUtc end) = Some (moment_of end)
expiry_view Expiry.SessionEnd = None

-- a `Saved` as contracts see it
abbrev pub saved_view : Saved → Parts Moment
saved_view s = record {
  raw_cookie = string_bytes s.raw_cookie;
  path = string_bytes s.path;
  from_attr = s.from_attr;
  domain = domain_view s.domain;
  expires = expiry_view s.expires;
}
