-- The parts of a saved cookie, borrowed from its JSON value, as contracts see them.
use Rattle.std.specs.Prelude.{List, ℕ, option_map}
use Rattle.cookie_forms.specs.Saved.{Domain, host_only, suffix, not_present, empty, Parts}
use Rattle.cookie_forms.specs.declared.value_reader.BorrowedParts.{BorrowedParts}
use Rattle.cookie_forms.specs.declared.value_reader.BorrowedDomain.{BorrowedDomain}
use Rattle.cookie_forms.specs.declared.value_reader.BorrowedDomain.TheVariants as Borrowed

-- a borrowed domain as contracts see it
abbrev pub borrowed_domain : BorrowedDomain → Domain
borrowed_domain (Borrowed.HostOnly text) = host_only text.now
borrowed_domain (Borrowed.Suffix text) = suffix text.now
borrowed_domain Borrowed.NotPresent = not_present
borrowed_domain Borrowed.Empty = empty

-- a borrowed saved cookie as contracts see it
abbrev pub borrowed_parts : BorrowedParts → Parts (List ℕ)
borrowed_parts p = record {
  raw_cookie = p.raw_cookie.now;
  path = p.path.now;
  from_attr = p.from_attr;
  domain = borrowed_domain p.domain;
  expires = option_map (λ text. text.now) p.expires;
}
