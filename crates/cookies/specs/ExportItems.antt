-- The cookies in exports of browsers' extensions and of Playwright, by the members of a JSON object.
use Rattle.std.specs.Prelude.{ℕ, ℤ, negsuc, Bool, true, false, not, ◌&&◌, ◌||◌, Float, List, ◌++◌, bytes_eq, codes, min, nat_eq, Option, Some, None, option_and_then, option_map, if◌then◌else◌}
use Rattle.std.specs.Float.{float_to_unsigned}
use Rattle.std.specs.Int.{w64}
use Rattle.std.specs.List.{starts_with}
use Rattle.std.specs.Option.{option_map_or}
use Rattle.std.specs.Ordering.{int_eq}
use Rattle.std.specs.Str.{str_eq_ignore_ascii_case, str_to_ascii_lowercase}
use Rattle.serde_json.specs.Data.{Data, null, boolean, number, string, array, object}
use Rattle.serde_json.specs.Find.{as_bool, as_i64, as_number, as_str, get, to_float}
use Rattle.cookie_words.specs.Moments.{epoch}
use Rattle.cookie_words.specs.Steps.{◌>>=◌}
use Rattle.cookie_words.specs.Strings.{without_dot}
use Rattle.cookie_raw.specs.PlainCookie.{is_plain}
use Rattle.cookie_raw.specs.Raw.{Raw, pair}
use Rattle.cookie_raw.specs.SetCookie.{of_seconds}
use Rattle.cookie_raw.specs.declared.same_site.SameSite.{SameSite}
use Rattle.cookie_raw.specs.declared.same_site.SameSite.TheVariants as Site
use Rattle.cookie_inputs.specs.Urls.{unambiguous_url}
use Rattle.cookie_parts.specs.Cookie.{Row}
use Rattle.cookie_parts.specs.Domain as Domain
use Rattle.cookie_parts.specs.Domain.{DomainValue}
use Rattle.cookie_parts.specs.Expiry.{Expiry, SessionEnd, expiry_of_max_age}
use Rattle.cookie_parts.specs.Hosts.{host_of, passes}
use Rattle.cookie_parts.specs.Path.{absolute_path}
use Rattle.cookies.specs.declared.format.Export.{Export}
use Rattle.cookies.specs.declared.format.Export.TheVariants.{Browser, Playwright}

-- the value, unless it is null
abbrev pub unless_null : Data → Option Data
unless_null null = None
unless_null (boolean b) = Some (boolean b)
unless_null (number n) = Some (number n)
unless_null (string s) = Some (string s)
unless_null (array items) = Some (array items)
unless_null (object members) = Some (object members)

-- the member of this name, unless it is null
abbrev pub member_in : List ℕ → Data → Option Data
member_in name item = option_and_then unless_null (get name item)

-- the member of this name, if it is a string
abbrev pub string_in : List ℕ → Data → Option (List ℕ)
string_in name item = option_and_then as_str (get name item)

-- the member of this name if it is a boolean, the default if it is missing or null
abbrev pub flag_in : List ℕ → Bool → Data → Option Bool
flag_in name default item = option_map_or as_bool (member_in name item) (Some default)

-- the path, `/` if it is empty
abbrev pub or_root : List ℕ → List ℕ
or_root path = if bytes_eq path (codes "") then codes "/" else path

-- the path, which is `/` if it is missing, null or empty
abbrev pub path_in : Data → Option (List ℕ)
path_in item = option_map_or (λ value. option_map or_root (as_str value)) (member_in (codes "path") item) (Some (codes "/"))

-- the expiry of a number of seconds since 1970, without its fraction; the integer -1 stands for a session cookie
abbrev pub expiry_at : Option ℤ → Float → Expiry
expiry_at whole seconds =
    if passes (λ n. int_eq n (negsuc 0)) whole then SessionEnd
    else expiry_of_max_age (of_seconds (min (float_to_unsigned w64 seconds) 9_223_372_036_854_775_807)) epoch

-- the expiry in the member of this name; `None` if it is neither a number nor null
abbrev pub expiry_in : List ℕ → Data → Option Expiry
expiry_in name item =
    option_map_or (λ value. option_map (λ n. expiry_at (as_i64 n) (to_float n)) (as_number value)) (member_in name item)
    (Some SessionEnd)

-- the SameSite attribute of a word in any case
abbrev pub same_site_of : List ℕ → Option SameSite
same_site_of word =
    if str_eq_ignore_ascii_case word (codes "strict") then Some Site.Strict
    else (if str_eq_ignore_ascii_case word (codes "lax") then Some Site.Lax
    else (if str_eq_ignore_ascii_case word (codes "none") || str_eq_ignore_ascii_case word (codes "no_restriction")
    then Some Site.None else None))

-- the attribute, without SameSite=None of a cookie that is not Secure
abbrev pub unless_insecure : Bool → Option SameSite → Option SameSite
unless_insecure is_secure None = None
unless_insecure is_secure (Some Site.Strict) = Some Site.Strict
unless_insecure is_secure (Some Site.Lax) = Some Site.Lax
unless_insecure is_secure (Some Site.None) = if is_secure then Some Site.None else None

-- the SameSite attribute
abbrev pub same_site_in : Bool → Data → Option SameSite
same_site_in is_secure item = unless_insecure is_secure (option_and_then same_site_of (string_in (codes "sameSite") item))

-- the member of this name is there, and neither null nor an empty string
abbrev pub has_key : List ℕ → Data → Bool
has_key name item = passes (λ key. not (passes (λ text. bytes_eq text (codes "")) (as_str key))) (member_in name item)

-- the cookie has a partition, or the first party to which it is isolated
abbrev pub is_partitioned : Data → Bool
is_partitioned item = has_key (codes "partitionKey") item || has_key (codes "firstPartyDomain") item

-- the string is a host as a URL has it, on which URL parsers agree, without a dot before it
abbrev pub is_host : List ℕ → Bool
is_host text =
    passes (λ url. passes (λ host. bytes_eq host text) (host_of url) && not (starts_with nat_eq text (codes ".")))
    (unambiguous_url (codes "https://" ++ text ++ codes "/"))

-- the domain of a string, without one dot before it and in lower case, if that is a host
abbrev pub domain_of : List ℕ → Bool → Option DomainValue
domain_of text is_host_only =
    if is_host (str_to_ascii_lowercase (without_dot text))
    then Some (if is_host_only then Domain.HostOnly (str_to_ascii_lowercase (without_dot text))
    else Domain.Suffix (str_to_ascii_lowercase (without_dot text)))
    else None

-- the fields of an item
pub record ItemFields : Type 0 where
  pub domain : List ℕ
  pub is_host_only : Bool
  pub path : List ℕ
  pub name : List ℕ
  pub value : List ℕ
  pub expires : Expiry
  pub is_secure : Bool
  pub is_http_only : Bool
  pub same_site : Option SameSite

-- the fields of an item, whose expiry has this name, if domain, name and value exist and each field but SameSite has
-- its type; a cookie is host-only if `hostOnly` is true or, without that, its domain has no dot before it
unfoldable pub fields_in : List ℕ → Data → Option ItemFields
fields_in expiry item = do
  domain ← string_in (codes "domain") item
  is_secure ← flag_in (codes "secure") false item
  is_host_only ← flag_in (codes "hostOnly") (not (starts_with nat_eq domain (codes "."))) item
  path ← path_in item
  name ← string_in (codes "name") item
  value ← string_in (codes "value") item
  expires ← expiry_in expiry item
  is_http_only ← flag_in (codes "httpOnly") false item
  Some (record {
    domain = domain;
    is_host_only = is_host_only;
    path = path;
    name = name;
    value = value;
    expires = expires;
    is_secure = is_secure;
    is_http_only = is_http_only;
    same_site = same_site_in is_secure item;
  })

-- the name of the member that has the expiry
abbrev pub expiry_name : Export → List ℕ
expiry_name Browser = codes "expirationDate"
expiry_name Playwright = codes "expires"

-- the flag, if it is set
abbrev pub if_set : Bool → Option Bool
if_set is_set = if is_set then Some true else None

-- the raw cookie of the fields: with Secure, HttpOnly and SameSite
abbrev pub raw_of : ItemFields → Raw
raw_of fields = record (pair fields.name fields.value) {
  secure = if_set fields.is_secure;
  http_only = if_set fields.is_http_only;
  same_site = fields.same_site;
}

-- the cookie of the fields, if its name and value read back from a header value, its domain is a host, and its path
-- begins with `/`
unfoldable pub cookie_of : ItemFields → Option Row
cookie_of fields = do
  raw ← if is_plain (raw_of fields) then Some (raw_of fields) else None
  domain ← domain_of fields.domain fields.is_host_only
  path ← absolute_path fields.path
  Some (record { raw = raw; domain = domain; path = path; expires = fields.expires })

-- the cookie of an item, whose expiry has this name
unfoldable pub cookie_in : List ℕ → Data → Option Row
cookie_in expiry item = do
  fields ← fields_in expiry item
  cookie_of fields
