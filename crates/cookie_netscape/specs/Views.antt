-- What contracts see of the fields of a line, and of its cookie before the strings are copied.
use Rattle.std.specs.Prelude.{ℕ, List, [], ◌∷◌, ◌++◌, map, Option, Some, None, if◌then◌else◌}
use Rattle.std.specs.Char.{to_ascii_lowercase}
use Rattle.cookie_parts.specs.Cookie.{Row}
use Rattle.cookie_parts.specs.Path.{from_attribute}
use Rattle.cookie_parts.specs.Views.{expiry_value}
use Rattle.cookie_netscape.specs.Lines as Line
use Rattle.cookie_netscape.specs.Lines.{domain_of, raw_of}
use Rattle.cookie_netscape.specs.declared.entry.Entry.{Entry}
use Rattle.cookie_netscape.specs.declared.fields.Fields.{Fields}
use Rattle.cookie_netscape.specs.declared.host.Host.{Host}
use Rattle.cookie_netscape.specs.declared.reading.Line.{Line}
use Rattle.cookie_netscape.specs.declared.reading.Line.TheVariants.{Cookie, Skipped, Other}

-- the fields of a line as contracts see them
abbrev pub fields_view : Fields → Line.Fields
fields_view fields = record {
  domain = fields.domain.now;
  subdomains = fields.subdomains.now;
  path = fields.path.now;
  secure = fields.secure.now;
  expiry = fields.expiry.now;
  name = fields.name.now;
  value = fields.value.now;
}

-- a host with its brackets
abbrev pub host_view : Host → List ℕ
host_view host = if host.has_brackets then 91 ∷ host.text.now ++ 93 ∷ [] else host.text.now

-- the cookie of an entry
abbrev pub entry_row : Entry → Row
entry_row entry = record {
  raw = raw_of entry.name.now entry.value.now entry.is_secure entry.is_http_only;
  domain = domain_of entry.has_subdomains (map to_ascii_lowercase (host_view entry.host));
  path = from_attribute entry.path.now;
  expires = expiry_value entry.expires;
}

-- a line: the cookie of its entry, Some None if it is blank or a comment, None if it has no fields of a cookie
abbrev pub line_view : Line → Option (Option Row)
line_view (Cookie entry) = Some (Some (entry_row entry))
line_view Skipped = Some None
line_view Other = None
