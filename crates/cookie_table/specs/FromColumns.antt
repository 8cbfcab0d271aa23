-- The cookie that a row of the table `cookies` is read as.
use Rattle.std.specs.Prelude.{◌==◌, ℕ, Bool, true, false, List, [], ◌∷◌, ℤ, pos, ◌*ℤ◌, Option, Some, None, option_map, if◌then◌else◌}
use Rattle.std.specs.Str.{is_utf8}
use Rattle.sqlite_value.specs.declared.value.Value.{Value}
use Rattle.sqlite_value.specs.declared.value.Value.TheVariants.{Null, Int, Text}
use Rattle.sqlite_value.specs.Order.{Row, column}
use Rattle.cookie_words.specs.Moments.{Moment}
use Rattle.cookie_words.specs.Steps.{◌>>=◌}
use Rattle.cookie_raw.specs.Raw.{Raw, ExpiresValue, At, Session}
use Rattle.cookie_raw.specs.declared.same_site.SameSite.{SameSite}
use Rattle.cookie_raw.specs.declared.same_site.SameSite.TheVariants as Site
use Rattle.cookie_forms.specs.MomentText.{parsed_moment}
use Rattle.cookie_parts.specs.Cookie as Cookie
use Rattle.cookie_parts.specs.Domain.{DomainValue, HostOnly, Suffix, NotPresent, Empty}
use Rattle.cookie_parts.specs.Path.{PathValue}
use Rattle.cookie_parts.specs.Expiry.{Expiry, AtUtc, SessionEnd}
use Rattle.cookie_table.specs.Places.{domain_attribute_place, expires_place, expiry_place, host_place, http_only_place, kind_place, max_age_place, name_place, path_attribute_place, path_mark_place, path_place, same_site_place, secure_place, value_place}

-- the value is NULL
abbrev pub is_null : Value → Bool
is_null Null = true
is_null other = false

-- an optional part: absent at NULL
abbrev pub if_any : {T : Type 0} → (Value → Option T) → Value → Option (Option T)
if_any read Null = Some None
if_any read value = option_map Some (read value)

-- a string
abbrev pub text_in : Value → Option (List ℕ)
text_in (Text text) = if is_utf8 text then Some text else None
text_in other = None

-- a natural number
abbrev pub number_in : Value → Option ℕ
number_in (Int (pos n)) = Some n
number_in other = None

-- the flag of this number
abbrev pub flag_numbered : ℕ → Option Bool
flag_numbered n = if n == 0 then Some false else (if n == 1 then Some true else None)

-- 0 or 1
abbrev pub flag_in : Value → Option Bool
flag_in value = number_in value >>= flag_numbered

-- the SameSite of this number
abbrev pub site_numbered : ℕ → Option SameSite
site_numbered n =
    if n == 0 then Some Site.None
    else (if n == 1 then Some Site.Lax else (if n == 2 then Some Site.Strict else None))

-- 0, 1 or 2
abbrev pub site_in : Value → Option SameSite
site_in value = number_in value >>= site_numbered

-- a time
abbrev pub time_in : Value → Option Moment
time_in value = text_in value >>= parsed_moment

-- NULL, or the time of a persistent cookie
abbrev pub expiry_in : Value → Option Expiry
expiry_in Null = Some SessionEnd
expiry_in value = option_map AtUtc (time_in value)

-- a Max-Age: a number of seconds
abbrev pub age_in : Value → Option ℤ
age_in (Int seconds) = Some (seconds *ℤ pos 1_000_000_000)
age_in other = None

-- the Expires attribute of a string, empty for the end of the session
abbrev pub attribute_from : List ℕ → Option ExpiresValue
attribute_from [] = Some Session
attribute_from (b ∷ text) = option_map At (parsed_moment (b ∷ text))

-- an Expires attribute
abbrev pub attribute_in : Value → Option ExpiresValue
attribute_in value = text_in value >>= attribute_from

-- the domain of this kind
abbrev pub domain_numbered : ℕ → List ℕ → Option DomainValue
domain_numbered kind text =
    if kind == 0 then Some (HostOnly text)
    else (if kind == 1 then Some (Suffix text)
    else (if kind == 2 then Some NotPresent else (if kind == 3 then Some Empty else None)))

-- the domain of a row
unfoldable pub domain_in : Row → Option DomainValue
domain_in row = do
  text ← text_in (column row host_place)
  kind ← number_in (column row kind_place)
  domain_numbered kind text

-- the path of a row
unfoldable pub path_in : Row → Option PathValue
path_in row = do
  text ← text_in (column row path_place)
  is_from_attribute ← flag_in (column row path_mark_place)
  Some (record { text = text; is_from_attribute = is_from_attribute })

-- the raw cookie of a row
unfoldable pub raw_in : Row → Option Raw
raw_in row = do
  name ← text_in (column row name_place)
  value ← text_in (column row value_place)
  secure ← if_any flag_in (column row secure_place)
  http_only ← if_any flag_in (column row http_only_place)
  same_site ← if_any site_in (column row same_site_place)
  domain ← if_any text_in (column row domain_attribute_place)
  path ← if_any text_in (column row path_attribute_place)
  max_age ← if_any age_in (column row max_age_place)
  expires ← if_any attribute_in (column row expires_place)
  Some (record {
    name = name;
    value = value;
    domain = domain;
    path = path;
    secure = secure;
    http_only = http_only;
    same_site = same_site;
    max_age = max_age;
    expires = expires;
  })

-- the cookie of a row, `None` if a column has a value of another form
unfoldable pub cookie_in : Row → Option Cookie.Row
cookie_in row = do
  domain ← domain_in row
  path ← path_in row
  raw ← raw_in row
  expires ← expiry_in (column row expiry_place)
  Some (record { raw = raw; domain = domain; path = path; expires = expires })
