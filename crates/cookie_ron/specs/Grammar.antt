-- The grammar of a list of saved cookies in RON. Inputs are lists of characters, strings in a cookie lists of bytes.
use Rattle.std.specs.Prelude.{◌≡◌, ◌≢◌, ◌⊎◌, ◌≤◌, ◌==◌, ◌||◌, ℕ, Bool, true, List, [], ◌∷◌, ◌++◌, length, codes, flat_map, Option, Some, None, if◌then◌else◌}
use Rattle.std.specs.Char.{is_ascii_hexdigit, IsScalar}
use Rattle.std.specs.List.{list_all, AllZip}
use Rattle.std.specs.Str.{byte, encode_utf8_all}
use Rattle.std.specs.Str.Parse.{digits_value}
use Rattle.cookie_forms.specs.Saved.{Domain, host_only, suffix, not_present, empty, Parts}

infixr 5 ◌▸◌
-- sequence: an input of the rule P, then one of the rule Q
abbrev pub ◌▸◌ : (List ℕ → Type 0) → (List ℕ → Type 0) → List ℕ → Type 0
(P ▸ Q) s = (x y : List ℕ) × (s ≡ x ++ y) × P x × Q y

-- exactly these characters
abbrev pub Exactly : List ℕ → List ℕ → Type 0
Exactly text s = s ≡ text

-- a space, a tab, a line feed or a carriage return
abbrev pub is_blank : ℕ → Bool
is_blank c = (c == 32) || (c == 9) || (c == 10) || (c == 13)

-- any number of blanks
abbrev pub Blanks : List ℕ → Type 0
Blanks s = list_all is_blank s ≡ true

-- a token, with any blanks before it
abbrev pub Token : List ℕ → List ℕ → Type 0
Token token = Blanks ▸ Exactly token

-- a closing token, with an optional comma before it
abbrev pub Close : List ℕ → List ℕ → Type 0
Close token s = Token token s ⊎ (Token (codes ",") ▸ Token token) s

-- the character of a one-letter escape
abbrev pub escaped_by : ℕ → Option ℕ
escaped_by letter =
    if (letter == byte "\"") || (letter == byte "\\") || (letter == byte "'") then Some letter
    else (if letter == byte "n" then Some 10
    else (if letter == byte "r" then Some 13
    else (if letter == byte "t" then Some 9
    else (if letter == byte "0" then Some 0 else None))))

-- the character itself, if it is neither a quote nor a backslash
abbrev pub IsUnescaped : ℕ → List ℕ → Type 0
IsUnescaped c s = (s ≡ c ∷ []) × (c ≢ byte "\"") × (c ≢ byte "\\")

-- the character as a one-letter escape: a backslash and a letter
abbrev pub IsLetterEscape : ℕ → List ℕ → Type 0
IsLetterEscape c s = (letter : ℕ) × (s ≡ codes "\\" ++ letter ∷ []) × (escaped_by letter ≡ Some c)

-- hexadecimal digits, of either case, whose value is c
abbrev pub HasHexValue : ℕ → List ℕ → Type 0
HasHexValue c digits = (list_all is_ascii_hexdigit digits ≡ true) × (digits_value 16 digits ≡ c)

-- the character as `\x` and two hexadecimal digits
abbrev pub IsByteEscape : ℕ → List ℕ → Type 0
IsByteEscape c s = (digits : List ℕ) × (s ≡ codes "\\x" ++ digits) × (length digits ≡ 2) × HasHexValue c digits

-- the character as `\u{`, one to six hexadecimal digits and `}`, whose value is a Unicode scalar value
abbrev pub IsUnicodeEscape : ℕ → List ℕ → Type 0
IsUnicodeEscape c s =
    (digits : List ℕ) × (s ≡ codes "\\u{" ++ digits ++ codes "}")
    × (1 ≤ length digits) × (length digits ≤ 6) × HasHexValue c digits × IsScalar c

-- a character of a string, as itself or as an escape
abbrev pub CharForm : ℕ → List ℕ → Type 0
CharForm c s = IsUnescaped c s ⊎ IsLetterEscape c s ⊎ IsByteEscape c s ⊎ IsUnicodeEscape c s

-- the characters of a string, one after the other
abbrev pub CharForms : List ℕ → List ℕ → Type 0
CharForms cs s = (parts : List (List ℕ)) × (s ≡ flat_map (λ part. part) parts) × AllZip CharForm cs parts

-- a quoted string
abbrev pub Text : List ℕ → List ℕ → Type 0
Text text s = (cs : List ℕ) × (text ≡ encode_utf8_all cs) × (Token (codes "\"") ▸ CharForms cs ▸ Exactly (codes "\"")) s

-- `true` or `false`
abbrev pub Flag : Bool → List ℕ → Type 0
Flag flag = Token (if flag then codes "true" else codes "false")

-- a string in parentheses
abbrev pub Argument : List ℕ → List ℕ → Type 0
Argument text = Token (codes "(") ▸ Text text ▸ Close (codes ")")

-- a path, and whether a Path attribute set it, in parentheses
abbrev pub PathPair : List ℕ → Bool → List ℕ → Type 0
PathPair path from_attr = Token (codes "(") ▸ Text path ▸ Token (codes ",") ▸ Flag from_attr ▸ Close (codes ")")

-- a domain: its kind, with its string if it has one
abbrev pub DomainForm : Domain → List ℕ → Type 0
DomainForm (host_only text) = Token (codes "HostOnly") ▸ Argument text
DomainForm (suffix text) = Token (codes "Suffix") ▸ Argument text
DomainForm not_present = Token (codes "NotPresent")
DomainForm empty = Token (codes "Empty")

-- an expiry: the string of its time, or `SessionEnd`
abbrev pub ExpiryForm : Option (List ℕ) → List ℕ → Type 0
ExpiryForm (Some text) = Token (codes "AtUtc") ▸ Argument text
ExpiryForm None = Token (codes "SessionEnd")

-- a field: its name, a colon and its value
abbrev pub Field : List ℕ → (List ℕ → Type 0) → List ℕ → Type 0
Field name value = Token name ▸ Token (codes ":") ▸ value

-- a saved cookie
abbrev pub Cookie : Parts (List ℕ) → List ℕ → Type 0
Cookie p =
    Token (codes "(")
    ▸ Field (codes "raw_cookie") (Text p.raw_cookie) ▸ Token (codes ",")
    ▸ Field (codes "path") (PathPair p.path p.from_attr) ▸ Token (codes ",")
    ▸ Field (codes "domain") (DomainForm p.domain) ▸ Token (codes ",")
    ▸ Field (codes "expires") (ExpiryForm p.expires)
    ▸ Close (codes ")")

-- cookies, separated by commas, and the closing bracket
abbrev pub Cookies : List (Parts (List ℕ)) → List ℕ → Type 0
Cookies [] = Token (codes "]")
Cookies (p ∷ []) = Cookie p ▸ Close (codes "]")
Cookies (p ∷ q ∷ ps) = Cookie p ▸ Token (codes ",") ▸ Cookies (q ∷ ps)

-- a list in brackets, with any blanks after it
abbrev pub IsList : List (Parts (List ℕ)) → List ℕ → Type 0
IsList ps = Token (codes "[") ▸ Cookies ps ▸ Blanks
