-- Parsing a Set-Cookie header value by RFC 6265 5.2 or by its revision, draft-ietf-httpbis-rfc6265bis 5.6.
use Rattle.std.specs.Prelude.{ℕ, ◌-◌, ◌==◌, Bool, false, not, ◌||◌, nat_lt, List, take, drop, length, bytes_eq, codes, filter_map, ℤ, Option, Some, None, option_map, option_and_then, Result, Ok, Err, if◌then◌else◌}
use Rattle.std.specs.List.{after_first, before_first, prefix_len, suffix_len}
use Rattle.std.specs.Str.{trim}
use Rattle.cookie_words.specs.Strings.{without_dot}
use Rattle.cookie_raw.specs.Raw.{Raw}
use Rattle.cookie_raw.specs.SetCookie.{age_of, attribute_is_named, attributes, domain_from, expires_from, has_equals, http_only_from, is_equals, last, last_accepted, pair_of, path_from, same_site_from, secure_from, site_of}
use Rattle.cookie_raw.specs.declared.error.RawCookieParseError.{RawCookieParseError}
use Rattle.cookie_raw.specs.declared.error.RawCookieParseError.TheVariants.{MissingPair, EmptyName}
use Rattle.cookie_raw.specs.declared.same_site.SameSite.{SameSite}
use Rattle.cookie_raw.specs.declared.syntax.Syntax.{Syntax}
use Rattle.cookie_raw.specs.declared.syntax.Syntax.TheVariants.{Rfc6265, Rfc6265bis}

-- 5.6: the white space of the revision: SP and HTAB
abbrev pub is_white_space : ℕ → Bool
is_white_space b = b == 32 || b == 9

-- without SP and HTAB at the start
abbrev pub trim_front : List ℕ → List ℕ
trim_front text = drop (prefix_len is_white_space text) text

-- without SP and HTAB at the end
abbrev pub trim_back : List ℕ → List ℕ
trim_back text = take (length text - suffix_len is_white_space text) text

-- 5.6: without white space at either end
abbrev pub trimmed : Syntax → List ℕ → List ℕ
trimmed Rfc6265 text = trim text
trimmed Rfc6265bis text = trim_back (trim_front text)

-- 5.6: the name: what precedes the first `=`, or all, trimmed
abbrev pub name_by : Syntax → List ℕ → List ℕ
name_by syntax piece = trimmed syntax (before_first is_equals piece)

-- 5.6: the value: what follows the first `=`, or nothing, trimmed
abbrev pub value_by : Syntax → List ℕ → List ℕ
value_by syntax piece = trimmed syntax (after_first is_equals piece)

-- 5.6: the revision ignores an attribute whose value is longer than 1,024 bytes
abbrev pub is_ignored : Syntax → List ℕ → Bool
is_ignored Rfc6265 value = false
is_ignored Rfc6265bis value = nat_lt 1024 (length value)

-- 5.6: the value of an attribute of one kind, if it is not ignored, is of that kind and its value is accepted
abbrev pub accepted_by : {T : Type 0} → Syntax → (List ℕ → List ℕ → Option T) → List ℕ → Option T
accepted_by syntax from piece =
    if is_ignored syntax (value_by syntax piece) then None else from (name_by syntax piece) (value_by syntax piece)

-- 5.7: of the attributes of one kind, the last accepted one counts
abbrev pub last_by : {T : Type 0} → Syntax → (List ℕ → List ℕ → Option T) → List (List ℕ) → Option T
last_by syntax from attributes = last (filter_map (accepted_by syntax from) attributes)

-- 5.6.2: the value of Max-Age; the revision ignores a `-` without a digit
abbrev pub age_by : Syntax → List ℕ → Option ℤ
age_by Rfc6265 value = age_of value
age_by Rfc6265bis value = if bytes_eq value (codes "-") then None else age_of value

-- 5.6.2: Max-Age
abbrev pub max_age_by : Syntax → List ℕ → List ℕ → Option ℤ
max_age_by syntax name value = if attribute_is_named (codes "Max-Age") name then age_by syntax value else None

-- an attribute of this name, whatever its value
abbrev pub any_named : List ℕ → List ℕ → List ℕ → Option (List ℕ)
any_named wanted name value = if attribute_is_named wanted name then Some value else None

-- the string, unless it is empty
abbrev pub unless_empty : List ℕ → Option (List ℕ)
unless_empty text = if length text == 0 then None else Some text

-- 5.6.3, 5.7: the Domain attribute; in the revision the last one decides, and an empty one counts as none
abbrev pub domain_by : Syntax → List (List ℕ) → Option (List ℕ)
domain_by Rfc6265 attributes = last_accepted domain_from attributes
domain_by Rfc6265bis attributes = option_and_then unless_empty (last_by Rfc6265bis (any_named (codes "Domain")) attributes)

-- 5.6.7, 5.7: the SameSite attribute; in the revision the last one decides, and an unknown value counts as none
abbrev pub same_site_by : Syntax → List (List ℕ) → Option SameSite
same_site_by Rfc6265 attributes = last_accepted same_site_from attributes
same_site_by Rfc6265bis attributes = option_and_then site_of (last_by Rfc6265bis (any_named (codes "SameSite")) attributes)

-- 5.6: the cookie of a header value, or why the header is ignored; by RFC 6265 it is `reading`
abbrev pub reading_by : Syntax → List ℕ → Result Raw RawCookieParseError
reading_by syntax text =
    if not (has_equals (pair_of text)) then Err MissingPair
    else (if length (name_by syntax (pair_of text)) == 0 then Err EmptyName
    else Ok (record {
      name = name_by syntax (pair_of text);
      value = value_by syntax (pair_of text);
      domain = option_map without_dot (domain_by syntax (attributes text));
      path = last_by syntax path_from (attributes text);
      secure = last_by syntax secure_from (attributes text);
      http_only = last_by syntax http_only_from (attributes text);
      same_site = same_site_by syntax (attributes text);
      max_age = last_by syntax (max_age_by syntax) (attributes text);
      expires = last_by syntax expires_from (attributes text);
    }))
