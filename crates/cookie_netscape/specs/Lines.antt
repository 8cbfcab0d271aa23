-- The cookie of a line of a `cookies.txt` file, Netscape's format as curl reads it.
use Rattle.std.specs.Prelude.{ℕ, min, ◌-◌, ◌==◌, Bool, true, false, not, ◌&&◌, ◌||◌, List, [], ◌∷◌, length, map, drop, take, bytes_eq, codes, nat_eq, Option, Some, None, is_none, is_some, option_and_then, option_map, unwrap_or, if◌then◌else◌}
use Rattle.std.specs.Char.{is_ascii_control, is_ascii_digit, is_ascii_whitespace, to_ascii_lowercase}
use Rattle.std.specs.List.{after_first, before_first, ends_with, list_all, list_any, prefix_len, starts_with, suffix_len}
use Rattle.std.specs.Option.{option_or}
use Rattle.std.specs.Result.{result_ok}
use Rattle.std.specs.Str.{str_eq_ignore_ascii_case}
use Rattle.std.specs.Str.Parse.{digits_value}
use Rattle.cookie_words.specs.Moments.{epoch}
use Rattle.cookie_words.specs.Steps.{◌>>=◌}
use Rattle.cookie_words.specs.Strings.{pieces, without_dot}
use Rattle.cookie_raw.specs.Raw.{ExpiresValue, Raw, pair}
use Rattle.cookie_raw.specs.SetCookie.{is_equals, is_semicolon, of_seconds, reading}
use Rattle.cookie_parts.specs.Cookie.{Row, is_http_only, is_secure_only}
use Rattle.cookie_parts.specs.Domain.{DomainValue, HostOnly, Suffix}
use Rattle.cookie_parts.specs.Expiry.{Expiry, SessionEnd, expiry_of_expires, expiry_of_max_age}
use Rattle.cookie_parts.specs.Path.{from_attribute, is_absolute}
use Rattle.cookie_netscape.specs.HostFields.{domain_from, host_from, is_colon, plain_host}

-- the fields of a line
pub record Fields : Type 0 where
  pub domain : List ℕ
  pub subdomains : List ℕ
  pub path : List ℕ
  pub secure : List ℕ
  pub expiry : List ℕ
  pub name : List ℕ
  pub value : List ℕ

-- a field that is TRUE or FALSE, ignoring case
abbrev pub flag_from : List ℕ → Option Bool
flag_from field =
    if str_eq_ignore_ascii_case field (codes "TRUE") then Some true
    else (if str_eq_ignore_ascii_case field (codes "FALSE") then Some false else None)

-- the fields of these strings
abbrev pub fields_of : List ℕ → List ℕ → List ℕ → List ℕ → List ℕ → List ℕ → List ℕ → Fields
fields_of domain subdomains path secure expiry name value = record {
  domain = domain;
  subdomains = subdomains;
  path = path;
  secure = secure;
  expiry = expiry;
  name = name;
  value = value;
}

-- the fields from `secure` on; an empty value may be missing
abbrev pub last_fields : List ℕ → List ℕ → List ℕ → List (List ℕ) → Option Fields
last_fields domain subdomains path (secure ∷ expiry ∷ name ∷ []) =
    Some (fields_of domain subdomains path secure expiry name [])
last_fields domain subdomains path (secure ∷ expiry ∷ name ∷ value ∷ []) =
    Some (fields_of domain subdomains path secure expiry name value)
last_fields domain subdomains path others = None

-- the fields of a line; if the third one is TRUE or FALSE, the path is missing, and is `/`
abbrev pub fields_from : List (List ℕ) → Option Fields
fields_from (domain ∷ subdomains ∷ path ∷ others) =
    if is_some (flag_from path) then last_fields domain subdomains (codes "/") (path ∷ others)
    else last_fields domain subdomains path others
fields_from others = None

-- the byte is a dot
abbrev pub is_dot : ℕ → Bool
is_dot b = b == 46

-- a number without a fraction
abbrev pub whole_from : List ℕ → Option ℕ
whole_from digits =
    if not (length digits == 0) && list_all is_ascii_digit digits then Some (digits_value 10 digits) else None

-- a number of seconds, without the fraction that it may have
unfoldable pub seconds_from : List ℕ → Option ℕ
seconds_from field =
    let whole = before_first is_dot field in
    if not (length whole == 0) && list_all is_ascii_digit whole && list_all is_ascii_digit (after_first is_dot field)
    then Some (digits_value 10 whole) else None

-- the expiry of a number of seconds from the epoch, at most the latest; 0 stands for a session cookie
abbrev pub expiry_at : ℕ → Expiry
expiry_at seconds =
    if seconds == 0 then SessionEnd
    else expiry_of_max_age (of_seconds (min seconds 9_223_372_036_854_775_807)) epoch

-- a second after the latest expiry
abbrev pub never : ℕ
never = 9_223_372_036_854_775_807

-- the expiry of a field; an empty one stands for a session cookie, and -1 for a cookie that never expires
abbrev pub expiry_from : List ℕ → Option Expiry
expiry_from field =
    if length field == 0 then Some SessionEnd
    else (if bytes_eq field (codes "-1") then Some (expiry_at never) else option_map expiry_at (seconds_from field))

-- there is a control character, such as HTAB or a line end
abbrev pub has_control : List ℕ → Bool
has_control text = list_any is_ascii_control text

-- the byte is `#`, `$`, `.` or a space
abbrev pub is_no_first : ℕ → Bool
is_no_first b = (b == 35) || (b == 36) || (b == 46) || (b == 32)

-- a domain is not empty, and does not begin like a comment, with a dot or with a space
abbrev pub is_domain_field : List ℕ → Bool
is_domain_field [] = false
is_domain_field (b ∷ rest) = not (is_no_first b) && not (has_control (b ∷ rest))

-- the string without one quotation mark at its start
unfoldable pub after_quote : List ℕ → List ℕ
after_quote text = if starts_with nat_eq text (codes "\"") then drop 1 text else text

-- the string without one quotation mark at its end
unfoldable pub before_quote : List ℕ → List ℕ
before_quote text = if ends_with nat_eq text (codes "\"") then take (length text - 1) text else text

-- `/` for an empty path
abbrev pub non_empty_path : List ℕ → List ℕ
non_empty_path path = if length path == 0 then codes "/" else path

-- the path of a field, without the quotation marks around it; `/` if it is empty
abbrev pub path_from : List ℕ → List ℕ
path_from field = non_empty_path (before_quote (after_quote field))

-- there is no quotation mark at either end
abbrev pub is_unquoted : List ℕ → Bool
is_unquoted text = not (starts_with nat_eq text (codes "\"")) && not (ends_with nat_eq text (codes "\""))

-- a path is not empty, has no quotation mark at either end, and is not TRUE or FALSE, which stand for a missing path
abbrev pub is_path_field : List ℕ → Bool
is_path_field path =
    not (length path == 0) && is_unquoted path && not (is_some (flag_from path)) && not (has_control path)

-- a cookie-value has no `;`, and no space at either end
abbrev pub is_value_field : List ℕ → Bool
is_value_field value =
    not (list_any is_semicolon value) && not (starts_with nat_eq value (codes " ")) && not (ends_with nat_eq value (codes " "))
    && not (has_control value)

-- a cookie-name is besides not empty, and has no `=`
abbrev pub is_name_field : List ℕ → Bool
is_name_field name = not (length name == 0) && not (list_any is_equals name) && is_value_field name

-- the strings of a cookie that the format can represent
unfoldable pub are_fields : List ℕ → List ℕ → List ℕ → List ℕ → Bool
are_fields host path name value =
    is_domain_field host && is_path_field path && is_name_field name && is_value_field value

-- an attribute without a value, if it is set
abbrev pub attribute_if : Bool → Option Bool
attribute_if is_set = if is_set then Some true else None

-- a name, a value, Secure and HttpOnly
abbrev pub raw_of : List ℕ → List ℕ → Bool → Bool → Raw
raw_of name value is_secure is_http_only =
    record (pair name value) { secure = attribute_if is_secure; http_only = attribute_if is_http_only }

-- a domain cookie or a host-only cookie
abbrev pub domain_of : Bool → List ℕ → DomainValue
domain_of has_subdomains domain = if has_subdomains then Suffix domain else HostOnly domain

-- the cookie of fields whose flags and expiry are these
abbrev pub fields_row : Bool → Fields → Bool → Bool → Expiry → Row
fields_row is_http_only fields has_subdomains is_secure expires = record {
  raw = raw_of fields.name fields.value is_secure is_http_only;
  domain = domain_of has_subdomains (domain_from fields.domain);
  path = from_attribute (path_from fields.path);
  expires = expires;
}

-- the cookie of these fields, if they are fields that the format can represent
abbrev pub if_are_fields : Fields → Row → Option Row
if_are_fields fields row =
    if are_fields (plain_host (without_dot fields.domain)) (path_from fields.path) fields.name fields.value then Some row else None

-- the cookie of fields
unfoldable pub row_from : Bool → Fields → Option Row
row_from is_http_only fields = do
  has_subdomains ← flag_from fields.subdomains
  is_secure ← flag_from fields.secure
  expires ← expiry_from fields.expiry
  if_are_fields fields (fields_row is_http_only fields has_subdomains is_secure expires)

-- a name that is missing with its `=` is written as the value
abbrev pub with_name : Fields → Fields
with_name fields = if length fields.name == 0 then record fields { name = fields.value; value = [] } else fields

-- the cookie of a line's fields, which HTAB separates
abbrev pub cookie_from : Bool → List ℕ → Option Row
cookie_from is_http_only text = option_and_then (row_from is_http_only) (option_map with_name (fields_from (pieces 9 text)))

-- the line without the white space around it
abbrev pub content : List ℕ → List ℕ
content line =
    let rest = drop (prefix_len is_ascii_whitespace line) line in
    take (length rest - suffix_len is_ascii_whitespace rest) rest

-- nothing, or a comment, which begins with `#` or, in Python's files, with `$`
abbrev pub is_skipped : List ℕ → Bool
is_skipped text = (length text == 0) || starts_with nat_eq text (codes "#") || starts_with nat_eq text (codes "$")

-- the cookie of what a line has by its fields; Some None if that is nothing or a comment, None if these are no fields of a cookie
unfoldable pub fields_cookie : List ℕ → Option (Option Row)
fields_cookie text =
    if starts_with nat_eq text (codes "#HttpOnly_") then option_map Some (cookie_from true (drop 10 text))
    else (if is_skipped text then Some None else option_map Some (cookie_from false text))

-- the header value after `Set-Cookie:`, ignoring case
unfoldable pub set_cookie_value : List ℕ → Option (List ℕ)
set_cookie_value text =
    if list_any is_colon text && str_eq_ignore_ascii_case (before_first is_colon text) (codes "Set-Cookie")
    then Some (after_first is_colon text) else None

-- the path of a Path attribute, without the quotation marks around it; `/` if it is missing or does not begin with `/`
unfoldable pub header_path : Option (List ℕ) → List ℕ
header_path attribute =
    let path = path_from (unwrap_or attribute []) in
    if is_absolute path then path else codes "/"

-- the expiry of an Expires attribute; without one, a session cookie
abbrev pub header_expiry : Option ExpiresValue → Expiry
header_expiry attribute = unwrap_or (option_map expiry_of_expires attribute) SessionEnd

-- the domain cookie of a header with this Domain attribute
abbrev pub header_row : Raw → List ℕ → Row
header_row raw domain = record {
  raw = raw_of raw.name raw.value (is_secure_only raw) (is_http_only raw);
  domain = Suffix (map to_ascii_lowercase (host_from domain));
  path = from_attribute (header_path raw.path);
  expires = header_expiry raw.expires;
}

-- the same, if its strings are those of a cookie that the format can represent
abbrev pub if_header_fields : Raw → List ℕ → Option Row
if_header_fields raw domain =
    if are_fields (plain_host domain) (header_path raw.path) raw.name raw.value then Some (header_row raw domain) else None

-- the cookie of a header that has a Domain attribute, and no Max-Age, since a file does not record the time from which that counts
abbrev pub row_of_header : Raw → Option Row
row_of_header raw = if is_none raw.max_age then option_and_then (if_header_fields raw) raw.domain else None

-- the cookie of what begins with `Set-Cookie:`, a header
unfoldable pub header_cookie : List ℕ → Option Row
header_cookie text = do
  value ← set_cookie_value text
  raw ← result_ok (reading value)
  row_of_header raw

-- the cookie of what a line has, by its fields or else as a header; Some None if that is nothing or a comment, None if it is malformed
unfoldable pub content_cookie : List ℕ → Option (Option Row)
content_cookie text = option_or (fields_cookie text) (option_map Some (header_cookie text))

-- the cookie of a line, with or without its line end; Some None if the line is blank or a comment, None if it is malformed
abbrev pub line_cookie : List ℕ → Option (Option Row)
line_cookie line = content_cookie (content line)
