-- What contracts see of a row that is read, before the strings are copied.
use Rattle.std.specs.Prelude.{option_map}
use Rattle.std.specs.Option.{option_copied}
use Rattle.jiff.specs.Words.{signed_nanos}
use Rattle.cookie_raw.specs.Raw as Cookie
use Rattle.cookie_raw.specs.Views.{expires_value}
use Rattle.cookie_parts.specs.Cookie.{Row}
use Rattle.cookie_parts.specs.Domain as Kind
use Rattle.cookie_parts.specs.Path.{PathValue}
use Rattle.cookie_parts.specs.Views.{expiry_value}
use Rattle.cookie_table.specs.declared.reading.Columns.{Columns}
use Rattle.cookie_table.specs.declared.reading.Domain.{Domain}
use Rattle.cookie_table.specs.declared.reading.Domain.TheVariants.{HostOnly, Suffix, NotPresent, Empty}
use Rattle.cookie_table.specs.declared.reading.Path.{Path}
use Rattle.cookie_table.specs.declared.reading.Raw.{Raw}

-- the domain as contracts see it
abbrev pub domain_view : Domain → Kind.DomainValue
domain_view (HostOnly text) = Kind.HostOnly text.now
domain_view (Suffix text) = Kind.Suffix text.now
domain_view NotPresent = Kind.NotPresent
domain_view Empty = Kind.Empty

-- the path as contracts see it
abbrev pub path_view : Path → PathValue
path_view path = record { text = path.text.now; is_from_attribute = path.is_from_attribute }

-- the raw cookie as contracts see it
abbrev pub raw_view : Raw → Cookie.Raw
raw_view raw = record {
  name = raw.name.now;
  value = raw.value.now;
  domain = option_copied raw.domain;
  path = option_copied raw.path;
  secure = raw.secure;
  http_only = raw.http_only;
  same_site = raw.same_site;
  max_age = option_map signed_nanos raw.max_age;
  expires = option_map expires_value raw.expires;
}

-- the cookie as contracts see it
abbrev pub columns_row : Columns → Row
columns_row columns = record {
  raw = raw_view columns.raw;
  domain = domain_view columns.domain;
  path = path_view columns.path;
  expires = expiry_value columns.expires;
}
