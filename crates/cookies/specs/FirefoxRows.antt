-- The cookies in Firefox's table `moz_cookies`, by the columns that the program selects.
use Rattle.std.specs.Prelude.{ℕ, ℤ, pos, ◌*ℤ◌, Bool, not, ◌&&◌, List, bytes_eq, codes, nat_eq, nat_lt, ◌==◌, slice_index, Option, option_and_then, option_map, Some, None, if◌then◌else◌}
use Rattle.std.specs.List.{starts_with}
use Rattle.std.specs.Ordering.{int_eq}
use Rattle.std.specs.Str.{is_utf8}
use Rattle.sqlite_value.specs.Order.{Row, column}
use Rattle.sqlite_value.specs.declared.value.Value.{Value}
use Rattle.sqlite_value.specs.declared.value.Value.TheVariants.{Null, Int, Real, Text, Blob}
use Rattle.cookie_words.specs.Moments.{epoch}
use Rattle.cookie_words.specs.Steps.{◌>>=◌}
use Rattle.cookie_raw.specs.declared.same_site.SameSite.{SameSite}
use Rattle.cookie_raw.specs.declared.same_site.SameSite.TheVariants as Site
use Rattle.cookie_parts.specs.Cookie.{Row as CookieRow}
use Rattle.cookie_parts.specs.Expiry.{expiry_of_max_age}
use Rattle.cookie_parts.specs.Hosts.{passes}
use Rattle.cookies.specs.ExportItems.{cookie_of, unless_insecure, ItemFields}
use Rattle.cookies.specs.declared.firefox_row.ExpiryUnit.{ExpiryUnit}
use Rattle.cookies.specs.declared.firefox_row.ExpiryUnit.TheVariants.{Seconds, Milliseconds}

-- the text of bytes, if they are UTF-8
abbrev pub text_in : List ℕ → Option (List ℕ)
text_in bytes = if is_utf8 bytes then Some bytes else None

-- the text of a value
abbrev pub text_of : Value → Option (List ℕ)
text_of (Text bytes) = text_in bytes
text_of Null = None
text_of (Int n) = None
text_of (Real x) = None
text_of (Blob bytes) = None

-- the number of a value that is an integer
abbrev pub number_of : Value → Option ℤ
number_of (Int n) = Some n
number_of Null = None
number_of (Real x) = None
number_of (Text text) = None
number_of (Blob bytes) = None

-- the text in a column
abbrev pub text_at : ℕ → Row → Option (List ℕ)
text_at n row = text_of (column row n)

-- the number in a column
abbrev pub number_at : ℕ → Row → Option ℤ
number_at n row = number_of (column row n)

-- the number in a column is not 0
abbrev pub flag_at : ℕ → Row → Option Bool
flag_at n row = option_map (λ number. not (int_eq number (pos 0))) (number_at n row)

-- the SameSite attribute of a number
abbrev pub same_site_at : ℤ → Option SameSite
same_site_at n =
    if int_eq n (pos 0) then Some Site.None
    else (if int_eq n (pos 1) then Some Site.Lax
    else (if int_eq n (pos 2) then Some Site.Strict else None))

-- the SameSite attribute
abbrev pub same_site_in_row : Bool → Row → Option SameSite
same_site_in_row is_secure row = unless_insecure is_secure (option_and_then same_site_at (number_at 7 row))

-- the unit in nanoseconds
abbrev pub nanoseconds_in : ExpiryUnit → ℤ
nanoseconds_in Seconds = pos 1_000_000_000
nanoseconds_in Milliseconds = pos 1_000_000

-- the unit of a file: seconds if the number at 60, of four bytes with the highest first, is less than 16
abbrev pub expiry_unit : List ℕ → ExpiryUnit
expiry_unit contents =
    if slice_index contents 60 == 0 && (slice_index contents 61 == 0 && (slice_index contents 62 == 0 && nat_lt (slice_index contents 63) 16))
    then Seconds else Milliseconds

-- the cookie is isolated, to a partition or to a container
abbrev pub is_isolated : Row → Bool
is_isolated row = not (passes (λ text. bytes_eq text (codes "")) (text_at 8 row))

-- the fields of a row, if each column but SameSite has its type; a cookie is host-only if its domain has no dot before it
unfoldable pub fields_in_row : ExpiryUnit → Row → Option ItemFields
fields_in_row unit row = do
  origin ← text_at 8 row
  domain ← text_at 0 row
  is_secure ← flag_at 5 row
  path ← text_at 1 row
  name ← text_at 2 row
  value ← text_at 3 row
  time ← number_at 4 row
  is_http_only ← flag_at 6 row
  Some (record {
    domain = domain;
    is_host_only = not (starts_with nat_eq domain (codes "."));
    path = path;
    name = name;
    value = value;
    expires = expiry_of_max_age (time *ℤ nanoseconds_in unit) epoch;
    is_secure = is_secure;
    is_http_only = is_http_only;
    same_site = same_site_in_row is_secure row;
  })

-- the cookie of a row
unfoldable pub cookie_in_row : ExpiryUnit → Row → Option CookieRow
cookie_in_row unit row = do
  fields ← fields_in_row unit row
  cookie_of fields
