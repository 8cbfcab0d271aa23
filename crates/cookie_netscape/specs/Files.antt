-- The cookies of a `cookies.txt` file.
use Rattle.std.specs.Prelude.{◌≡◌, ◌≢◌, ℕ, ◌+◌, ◌==◌, Bool, ◌&&◌, List, [], ◌∷◌, ◌++◌, length, Option, Some, None, IsSome, is_none, is_some, unwrap_or, if◌then◌else◌}
use Rattle.std.specs.List.{cons_option}
use Rattle.std.specs.Str.Lines.{lines}
use Rattle.cookie_words.specs.Steps.{◌>>=◌}
use Rattle.cookie_words.specs.Strings.{pieces}
use Rattle.cookie_parts.specs.Cookie.{Row}
use Rattle.cookie_parts.specs.Hosts.{passes}
use Rattle.cookie_netscape.specs.Lines.{content, fields_cookie, fields_from, line_cookie}
use Rattle.cookie_netscape.specs.declared.error.NetscapeError.{NetscapeError}
use Rattle.cookie_netscape.specs.declared.error.NetscapeError.TheVariants.{BadLine, Unrepresentable, Io, NotUtf8, Memory}

-- the cookies of lines; None if one of them is malformed
abbrev pub rows_in_lines : List (List ℕ) → Option (List Row)
rows_in_lines [] = Some []
rows_in_lines (line ∷ more) = do
  row ← line_cookie line
  rows ← rows_in_lines more
  Some (cons_option row rows)

-- the cookies of a file; None if one of its lines is malformed
abbrev pub rows_in_file : List ℕ → Option (List Row)
rows_in_file text = rows_in_lines (lines text)

-- the cookie of a line; None if the line is skipped or malformed
abbrev pub cookie_of_line : List ℕ → Option Row
cookie_of_line line = unwrap_or (line_cookie line) None

-- the line has the fields of a cookie
abbrev pub has_fields : List ℕ → Bool
has_fields line = is_some (unwrap_or (fields_cookie (content line)) None)

-- the line has the fields of a session cookie, and its expiry field is empty
abbrev pub has_empty_expiry : List ℕ → Bool
has_empty_expiry line = has_fields line && passes (λ fields. length fields.expiry == 0) (fields_from (pieces 9 (content line)))

-- the cookies of the lines that are not malformed
abbrev pub well_formed_rows : List (List ℕ) → List Row
well_formed_rows [] = []
well_formed_rows (line ∷ more) = cons_option (cookie_of_line line) (well_formed_rows more)

-- the line is malformed
abbrev pub is_malformed : List ℕ → Bool
is_malformed line = is_none (line_cookie line)

-- the numbers of the malformed lines, of which the first line has this number
abbrev pub malformed_from : ℕ → List (List ℕ) → List ℕ
malformed_from number [] = []
malformed_from number (line ∷ more) =
    if is_malformed line then number ∷ malformed_from (number + 1) more else malformed_from (number + 1) more

-- the line of this number, counted from 1, is the first that is malformed
abbrev pub IsFirstBad : ℕ → List ℕ → Type 0
IsFirstBad number text =
    (before : List (List ℕ)) × (line : List ℕ) × (after : List (List ℕ)) × (lines text ≡ before ++ line ∷ after)
    × IsSome (rows_in_lines before) × (line_cookie line ≡ None) × (number ≡ length before + 1)

-- the first lines are well-formed, and one of them is a cookie
abbrev pub BeginsWithCookies : List ℕ → Type 0
BeginsWithCookies text =
    (before after : List (List ℕ)) × (rows : List Row)
    × (lines text ≡ before ++ after) × (rows_in_lines before ≡ Some rows) × (rows ≢ [])

-- the line is malformed, or out of memory for its cookie; the error has this number
abbrev pub FailsAtLine : NetscapeError → ℕ → List ℕ → Type 0
FailsAtLine (BadLine at) number line = (at ≡ number) × (line_cookie line ≡ None)
FailsAtLine Memory number line = (row : Row) × (line_cookie line ≡ Some (Some row))
FailsAtLine Unrepresentable number line = ⊥
FailsAtLine Io number line = ⊥
FailsAtLine NotUtf8 number line = ⊥

-- a line is malformed, or out of memory for a cookie of the lines before any such line
abbrev pub FailsToRead : NetscapeError → List ℕ → Type 0
FailsToRead (BadLine number) text = IsFirstBad number text
FailsToRead Memory text = BeginsWithCookies text
FailsToRead Unrepresentable text = ⊥
FailsToRead Io text = ⊥
FailsToRead NotUtf8 text = ⊥
