-- What an input in RON is read as: each function takes the characters that are left, and returns what it read and the rest.
use lib.Utf8.{scalar}
use Rattle.std.specs.Prelude.{◌==◌, ℕ, ◌+◌, zero, suc, Bool, true, false, ◌&&◌, List, [], ◌∷◌, ◌++◌, length, take, drop, codes, nat_le, Option, Some, None, option_map, option_and_then, if◌then◌else◌}
use Rattle.std.specs.Char.{encode_utf8, is_ascii_hexdigit}
use Rattle.std.specs.List.{list_all, position}
use Rattle.std.specs.Str.{byte}
use Rattle.std.specs.Str.Parse.{digits_value}
use Rattle.cookie_words.specs.Steps.{◌>>=◌}
use Rattle.cookie_forms.specs.Saved.{Domain, host_only, suffix, not_present, empty, Parts}
use Rattle.cookie_ron.specs.Grammar.{is_blank, escaped_by}

-- the rest after any blanks
abbrev pub drop_blanks : List ℕ → List ℕ
drop_blanks [] = []
drop_blanks (c ∷ cs) = if is_blank c then drop_blanks cs else c ∷ cs

-- the rest after exactly these characters
abbrev pub behind : List ℕ → List ℕ → Option (List ℕ)
behind [] s = Some s
behind (c ∷ cs) [] = None
behind (c ∷ cs) (d ∷ s) = if d == c then behind cs s else None

-- the rest after a token, with any blanks before it
abbrev pub token_at : List ℕ → List ℕ → Option (List ℕ)
token_at token s = behind token (drop_blanks s)

-- `read` applied to the rest if there is one, else `other`
abbrev pub either : {A : Type 0} → Option (List ℕ) → (List ℕ → Option A) → Option A → Option A
either None read other = other
either (Some rest) read other = read rest

-- the rest after a closing token, with an optional comma before it
abbrev pub close_at : List ℕ → List ℕ → Option (List ℕ)
close_at token s = either (token_at (codes ",") s) (λ rest. token_at token rest) (token_at token s)

-- the value of hexadecimal digits
abbrev pub hex_value : List ℕ → Option ℕ
hex_value digits = if list_all is_ascii_hexdigit digits then Some (digits_value 16 digits) else None

-- the character after `\x`
abbrev pub byte_at : List ℕ → Option (ℕ × List ℕ)
byte_at [] = None
byte_at (c ∷ []) = None
byte_at (c ∷ d ∷ s) = option_map (λ value. (value, s)) (hex_value (c ∷ d ∷ []))

-- the character with the number that one to six hexadecimal digits give
abbrev pub code_of : List ℕ → Option ℕ
code_of digits =
    if nat_le 1 (length digits) && nat_le (length digits) 6
    then option_and_then (λ value. if scalar value then Some value else None) (hex_value digits) else None

-- the index of the first closing brace
unfoldable pub brace_in : List ℕ → Option ℕ
brace_in s = position (λ c. c == byte "}") s

-- the input before and after the first closing brace
unfoldable pub in_braces : List ℕ → Option (List ℕ × List ℕ)
in_braces s = option_map (λ end. (take end s, drop (end + 1) s)) (brace_in s)

-- the character after `\u`
abbrev pub code_at : List ℕ → Option (ℕ × List ℕ)
code_at [] = None
code_at (c ∷ s) =
    if c == byte "{"
    then option_and_then (λ braced. option_map (λ code. (code, braced.1)) (code_of braced.0)) (in_braces s) else None

-- the character of an escape, after its backslash
abbrev pub escape_at : List ℕ → Option (ℕ × List ℕ)
escape_at [] = None
escape_at (c ∷ s) =
    if c == byte "x" then byte_at s
    else (if c == byte "u" then code_at s else option_map (λ value. (value, s)) (escaped_by c))

-- a character of a string
abbrev pub char_at : List ℕ → Option (ℕ × List ℕ)
char_at [] = None
char_at (c ∷ s) =
    if c == byte "\\" then escape_at s else (if c == byte "\"" then None else Some (c, s))

-- prepends what was read before
abbrev pub onto : {A : Type 0} → List A → Option (List A × List ℕ) → Option (List A × List ℕ)
onto before o = option_map (λ read. (before ++ read.0, read.1)) o

-- after a character, more of them; if there was none, the closing quote
abbrev pub chars_behind : (List ℕ → Option (List ℕ × List ℕ)) → List ℕ → Option (ℕ × List ℕ) → Option (List ℕ × List ℕ)
chars_behind more s None = option_map (λ rest. ([], rest)) (behind (codes "\"") s)
chars_behind more s (Some first) = onto (encode_utf8 first.0) (more first.1)

-- the characters of a string up to its closing quote, in UTF-8; `n` is larger than the number of characters left
abbrev pub chars_at : ℕ → List ℕ → Option (List ℕ × List ℕ)
chars_at zero s = None
chars_at (suc n) s = chars_behind (λ rest. chars_at n rest) s (char_at s)

-- a quoted string
unfoldable pub text_at : List ℕ → Option (List ℕ × List ℕ)
text_at s = do
  rest ← token_at (codes "\"") s
  chars_at (suc (length rest)) rest

-- `true` or `false`
unfoldable pub flag_at : List ℕ → Option (Bool × List ℕ)
flag_at s =
    either (token_at (codes "true") s) (λ rest. Some (true, rest))
    (option_map (λ rest. (false, rest)) (token_at (codes "false") s))

-- a string in parentheses
unfoldable pub argument_at : List ℕ → Option (List ℕ × List ℕ)
argument_at s = do
  in_brackets ← token_at (codes "(") s
  text ← text_at in_brackets
  rest ← close_at (codes ")") text.1
  Some (text.0, rest)

-- a path, and whether a Path attribute set it
unfoldable pub path_at : List ℕ → Option ((List ℕ × Bool) × List ℕ)
path_at s = do
  in_brackets ← token_at (codes "(") s
  path ← text_at in_brackets
  second ← token_at (codes ",") path.1
  from_attr ← flag_at second
  rest ← close_at (codes ")") from_attr.1
  Some ((path.0, from_attr.0), rest)

-- a domain
unfoldable pub domain_at : List ℕ → Option (Domain × List ℕ)
domain_at s =
    either (token_at (codes "HostOnly") s) (λ rest. option_map (λ text. (host_only text.0, text.1)) (argument_at rest))
    (either (token_at (codes "Suffix") s) (λ rest. option_map (λ text. (suffix text.0, text.1)) (argument_at rest))
    (either (token_at (codes "NotPresent") s) (λ rest. Some (not_present, rest))
    (option_map (λ rest. (empty, rest)) (token_at (codes "Empty") s))))

-- the string of an expiry, or `None` for `SessionEnd`
unfoldable pub expiry_text_at : List ℕ → Option (Option (List ℕ) × List ℕ)
expiry_text_at s =
    either (token_at (codes "AtUtc") s) (λ rest. option_map (λ text. (Some text.0, text.1)) (argument_at rest))
    (option_map (λ rest. (None, rest)) (token_at (codes "SessionEnd") s))

-- the rest after a field's name and colon
unfoldable pub name_at : List ℕ → List ℕ → Option (List ℕ)
name_at name s = do
  colon ← token_at name s
  token_at (codes ":") colon

-- a field's value
abbrev pub field_at : {A : Type 0} → List ℕ → (List ℕ → Option A) → List ℕ → Option A
field_at name value s = option_and_then value (name_at name s)

-- the fields `raw_cookie` and `path`
unfoldable pub first_fields_at : List ℕ → Option ((List ℕ × (List ℕ × Bool)) × List ℕ)
first_fields_at s = do
  raw_cookie ← field_at (codes "raw_cookie") text_at s
  second ← token_at (codes ",") raw_cookie.1
  path ← field_at (codes "path") path_at second
  Some ((raw_cookie.0, path.0), path.1)

-- the fields `domain` and `expires`
unfoldable pub last_fields_at : List ℕ → Option ((Domain × Option (List ℕ)) × List ℕ)
last_fields_at s = do
  domain ← field_at (codes "domain") domain_at s
  second ← token_at (codes ",") domain.1
  expires ← field_at (codes "expires") expiry_text_at second
  Some ((domain.0, expires.0), expires.1)

-- a saved cookie
unfoldable pub cookie_at : List ℕ → Option (Parts (List ℕ) × List ℕ)
cookie_at s = do
  fields ← token_at (codes "(") s
  first ← first_fields_at fields
  others ← token_at (codes ",") first.1
  last ← last_fields_at others
  rest ← close_at (codes ")") last.1
  Some (
    record {
      raw_cookie = first.0.0;
      path = first.0.1.0;
      from_attr = first.0.1.1;
      domain = last.0.0;
      expires = last.0.1;
    },
    rest,
  )

-- after a cookie: a comma and more cookies, or the closing bracket
abbrev pub behind_cookie : (List ℕ → Option (List (Parts (List ℕ)) × List ℕ)) → List ℕ → Option (List (Parts (List ℕ)) × List ℕ)
behind_cookie more s =
    either (token_at (codes ",") s) more (option_map (λ rest. ([], rest)) (token_at (codes "]") s))

-- the cookies of a list up to its closing bracket; `n` is larger than the number of characters left
abbrev pub cookies_at : ℕ → List ℕ → Option (List (Parts (List ℕ)) × List ℕ)
cookies_at zero s = None
cookies_at (suc n) s =
    either (token_at (codes "]") s) (λ rest. Some ([], rest))
    (option_and_then
    (λ first. onto (first.0 ∷ []) (behind_cookie (λ rest. cookies_at n rest) first.1))
    (cookie_at s))

-- the value, if nothing is left of the input
abbrev pub if_empty : {A : Type 0} → A → List ℕ → Option A
if_empty a [] = Some a
if_empty a (c ∷ cs) = None

-- the list of a whole input
unfoldable pub list_at : List ℕ → Option (List (Parts (List ℕ)))
list_at s = do
  cookies ← token_at (codes "[") s
  read ← cookies_at (suc (length cookies)) cookies
  if_empty read.0 (drop_blanks read.1)
