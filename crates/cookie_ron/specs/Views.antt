-- A saved cookie whose expiry is not parsed yet, as contracts see it.
use Rattle.std.specs.Prelude.{ℕ, List, option_map, string_bytes}
use Rattle.cookie_forms.specs.Saved.{Parts, domain_view}
use Rattle.cookie_ron.specs.declared.reading.Entry.{Entry}

-- a saved cookie whose expiry is not parsed yet, as contracts see it
abbrev pub entry_view : Entry → Parts (List ℕ)
entry_view e = record {
  raw_cookie = string_bytes e.raw_cookie;
  path = string_bytes e.path;
  from_attr = e.from_attr;
  domain = domain_view e.domain;
  expires = option_map string_bytes e.expires;
}
