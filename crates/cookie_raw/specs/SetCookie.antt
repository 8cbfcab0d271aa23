-- Parsing a Set-Cookie header value, RFC 6265 5.2.
use Rattle.std.specs.Prelude.{ℕ, ◌*◌, min, ◌==◌, Bool, true, not, ◌&&◌, List, [], ◌∷◌, length, drop, codes, filter_map, nat_eq, ℤ, pos, Option, Some, None, option_map, Result, Ok, Err, if◌then◌else◌}
use Rattle.std.specs.Char.{is_ascii_digit}
use Rattle.std.specs.List.{before_first, after_first, list_all, list_any, starts_with}
use Rattle.std.specs.Str.{trim, str_eq_ignore_ascii_case}
use Rattle.std.specs.Str.Parse.{digits_value}
use Rattle.cookie_words.specs.Strings.{pieces, without_dot}
use Rattle.cookie_raw.specs.CookieDate.{cookie_date}
use Rattle.cookie_raw.specs.Raw.{Raw, ExpiresValue, At}
use Rattle.cookie_raw.specs.declared.error.RawCookieParseError.{RawCookieParseError}
use Rattle.cookie_raw.specs.declared.error.RawCookieParseError.TheVariants.{MissingPair, EmptyName}
use Rattle.cookie_raw.specs.declared.same_site.SameSite.{SameSite}
use Rattle.cookie_raw.specs.declared.same_site.SameSite.TheVariants as same_site

-- the byte is `=`
abbrev pub is_equals : ℕ → Bool
is_equals b = b == 61

-- the byte is `;`
abbrev pub is_semicolon : ℕ → Bool
is_semicolon b = b == 59

-- 5.2 step 1: the name-value-pair precedes the first `;`
abbrev pub pair_of : List ℕ → List ℕ
pair_of text = before_first is_semicolon text

-- 5.2: the attributes, separated by `;`
abbrev pub attributes : List ℕ → List (List ℕ)
attributes text = drop 1 (pieces 59 text)

-- the attributes in what follows the first `;`, if there is one
abbrev pub attributes_after : Option (List ℕ) → List (List ℕ)
attributes_after None = []
attributes_after (Some rest) = pieces 59 rest

-- there is a `=`
abbrev pub has_equals : List ℕ → Bool
has_equals piece = list_any is_equals piece

-- the name: what precedes the first `=`, or all, without white space at either end
abbrev pub name_of : List ℕ → List ℕ
name_of piece = trim (before_first is_equals piece)

-- the value: what follows the first `=`, or nothing, without white space at either end
abbrev pub value_of : List ℕ → List ℕ
value_of piece = trim (after_first is_equals piece)

-- the attribute has this name, ignoring case
abbrev pub attribute_is_named : List ℕ → List ℕ → Bool
attribute_is_named name attribute = str_eq_ignore_ascii_case attribute name

-- 5.2.1: Expires, ignored if its value is not a cookie-date
abbrev pub expires_from : List ℕ → List ℕ → Option ExpiresValue
expires_from name value = if attribute_is_named (codes "Expires") name then option_map At (cookie_date value) else None

-- seconds in nanoseconds
abbrev pub of_seconds : ℕ → ℤ
of_seconds seconds = pos (seconds * 1_000_000_000)

-- the value of Max-Age: 0 for `-` and digits, if any; else the number of seconds, at most 2^63 - 1
unfoldable pub age_of : List ℕ → Option ℤ
age_of value =
    if starts_with nat_eq value (codes "-") && list_all is_ascii_digit (drop 1 value) then Some (of_seconds 0)
    else (if not (length value == 0) && list_all is_ascii_digit value
    then Some (of_seconds (min (digits_value 10 value) 9_223_372_036_854_775_807)) else None)

-- 5.2.2: Max-Age, ignored if its value has another form
abbrev pub max_age_from : List ℕ → List ℕ → Option ℤ
max_age_from name value = if attribute_is_named (codes "Max-Age") name then age_of value else None

-- 5.2.3: Domain, ignored if its value is empty
abbrev pub domain_from : List ℕ → List ℕ → Option (List ℕ)
domain_from name value =
    if attribute_is_named (codes "Domain") name && not (length value == 0) then Some value else None

-- 5.2.4: Path
abbrev pub path_from : List ℕ → List ℕ → Option (List ℕ)
path_from name value = if attribute_is_named (codes "Path") name then Some value else None

-- 5.2.5: Secure, whatever its value
abbrev pub secure_from : List ℕ → List ℕ → Option Bool
secure_from name value = if attribute_is_named (codes "Secure") name then Some true else None

-- 5.2.6: HttpOnly, whatever its value
abbrev pub http_only_from : List ℕ → List ℕ → Option Bool
http_only_from name value = if attribute_is_named (codes "HttpOnly") name then Some true else None

-- the value of SameSite
unfoldable pub site_of : List ℕ → Option SameSite
site_of value =
    if attribute_is_named (codes "Strict") value then Some same_site.Strict
    else (if attribute_is_named (codes "Lax") value then Some same_site.Lax
    else (if attribute_is_named (codes "None") value then Some same_site.None else None))

-- SameSite, which is not in RFC 6265; ignored if its value is unknown
abbrev pub same_site_from : List ℕ → List ℕ → Option SameSite
same_site_from name value = if attribute_is_named (codes "SameSite") name then site_of value else None

-- the value of an attribute of one kind, if it is of that kind and its value is accepted
abbrev pub accepted_value : {T : Type 0} → (List ℕ → List ℕ → Option T) → List ℕ → Option T
accepted_value from piece = from (name_of piece) (value_of piece)

-- the last element, if there is one
abbrev pub last : {T : Type 0} → List T → Option T
last [] = None
last (x ∷ []) = Some x
last (x ∷ y ∷ ys) = last (y ∷ ys)

-- 5.3: of the attributes of one kind, the last accepted one counts
abbrev pub last_accepted : {T : Type 0} → (List ℕ → List ℕ → Option T) → List (List ℕ) → Option T
last_accepted from attributes = last (filter_map (accepted_value from) attributes)

-- 5.2: the cookie of a header value, or why the header is ignored
abbrev pub reading : List ℕ → Result Raw RawCookieParseError
reading text =
    if not (has_equals (pair_of text)) then Err MissingPair
    else (if length (name_of (pair_of text)) == 0 then Err EmptyName
    else Ok (record {
      name = name_of (pair_of text);
      value = value_of (pair_of text);
      domain = option_map without_dot (last_accepted domain_from (attributes text));
      path = last_accepted path_from (attributes text);
      secure = last_accepted secure_from (attributes text);
      http_only = last_accepted http_only_from (attributes text);
      same_site = last_accepted same_site_from (attributes text);
      max_age = last_accepted max_age_from (attributes text);
      expires = last_accepted expires_from (attributes text);
    }))
