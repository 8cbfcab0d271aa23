-- What is printed for a list of saved cookies, as UTF-8.
use Rattle.std.specs.Prelude.{◌==◌, ◌||◌, ℕ, Bool, false, List, [], ◌∷◌, ◌++◌, codes, flat_map, map, Option, Some, None, Result, Ok, Err, if◌then◌else◌}
use Rattle.std.specs.Char.{encode_utf8, is_control}
use Rattle.std.specs.Fmt.{digits}
use Rattle.std.specs.List.{list_any}
use Rattle.std.specs.Str.{byte, chars}
use Rattle.cookie_words.specs.Moments.{Moment}
use Rattle.cookie_forms.specs.Saved.{Domain, host_only, suffix, not_present, empty, Parts}
use Rattle.cookie_forms.specs.ToJson.{is_early, with_expiry_text}
use Rattle.cookie_forms.specs.declared.error.SavedError.{SavedError}
use Rattle.cookie_forms.specs.declared.error.SavedError.TheVariants as ErrorCase

-- a character: a quote, a backslash or a control character as an escape, any other as itself
abbrev pub printed_char : ℕ → List ℕ
printed_char c =
    if (c == byte "\"") || (c == byte "\\") then codes "\\" ++ c ∷ []
    else (if c == 10 then codes "\\n"
    else (if c == 13 then codes "\\r"
    else (if c == 9 then codes "\\t"
    else (if is_control c then codes "\\u{" ++ digits 16 false c ++ codes "}" else encode_utf8 c))))

-- a quoted string
abbrev pub quoted : List ℕ → List ℕ
quoted text = codes "\"" ++ flat_map printed_char (chars text) ++ codes "\""

-- `true` or `false`
abbrev pub printed_flag : Bool → List ℕ
printed_flag flag = if flag then codes "true" else codes "false"

-- a path, and whether a Path attribute set it
abbrev pub printed_path : List ℕ → Bool → List ℕ
printed_path path from_attr = codes "(" ++ quoted path ++ codes ", " ++ printed_flag from_attr ++ codes ")"

-- a domain
abbrev pub printed_domain : Domain → List ℕ
printed_domain (host_only text) = codes "HostOnly(" ++ quoted text ++ codes ")"
printed_domain (suffix text) = codes "Suffix(" ++ quoted text ++ codes ")"
printed_domain not_present = codes "NotPresent"
printed_domain empty = codes "Empty"

-- an expiry, `SessionEnd` for a session cookie
abbrev pub printed_expiry : Option (List ℕ) → List ℕ
printed_expiry (Some text) = codes "AtUtc(" ++ quoted text ++ codes ")"
printed_expiry None = codes "SessionEnd"

-- a field on a line of its own
abbrev pub printed_field : List ℕ → List ℕ → List ℕ
printed_field name value = codes "        " ++ name ++ codes ": " ++ value ++ codes ",\n"

-- a saved cookie, on six lines
abbrev pub printed_cookie : Parts (List ℕ) → List ℕ
printed_cookie p =
    codes "    (\n"
    ++ printed_field (codes "raw_cookie") (quoted p.raw_cookie)
    ++ printed_field (codes "path") (printed_path p.path p.from_attr)
    ++ printed_field (codes "domain") (printed_domain p.domain)
    ++ printed_field (codes "expires") (printed_expiry p.expires)
    ++ codes "    ),\n"

-- a list: `[]` if empty, else a bracket on a line of its own, the cookies, and a bracket
abbrev pub printed_list : List (Parts (List ℕ)) → List ℕ
printed_list [] = codes "[]"
printed_list (p ∷ ps) = codes "[\n" ++ flat_map printed_cookie (p ∷ ps) ++ codes "]"

-- what is printed for a list, or `Moment` if an expiry is before the year 0
abbrev pub ron_written : List (Parts Moment) → Result (List ℕ) SavedError
ron_written ps = if list_any is_early ps then Err ErrorCase.Moment else Ok (printed_list (map with_expiry_text ps))
