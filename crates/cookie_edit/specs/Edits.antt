-- Edits of a `cookies.txt` file. A line has its line end here; the last one may have none.
use Rattle.std.specs.Prelude.{ℕ, ◌==◌, Bool, not, ◌||◌, List, [], ◌∷◌, ◌++◌, codes, filter, length, nat_eq, is_some, if◌then◌else◌}
use Rattle.std.specs.Char.{is_newline}
use Rattle.std.specs.List.{before_first, concat, ends_with, list_any, onto_first}
use Rattle.cookie_words.specs.Strings.{pieces}
use Rattle.cookie_parts.specs.Cookie.{Row}
use Rattle.cookie_parts.specs.Hosts.{passes}
use Rattle.cookie_netscape.specs.Files.{cookie_of_line, has_empty_expiry}
use Rattle.cookie_netscape.specs.Written.{as_written, line_in}
use Rattle.cookie_netscape.specs.declared.writing.SessionExpiry.{SessionExpiry}
use Rattle.cookie_netscape.specs.declared.writing.SessionExpiry.TheVariants.{Zero, Empty}
use Rattle.cookie_laws.specs.Rows.{has_key, key_of, row_of}

-- the lines of a file, each with its line end
abbrev pub ended_lines : List ℕ → List (List ℕ)
ended_lines [] = []
ended_lines (b ∷ rest) = if is_newline b then (b ∷ []) ∷ ended_lines rest else onto_first b (ended_lines rest)

-- the line is that of a cookie that passes the test
abbrev pub is_named : (Row → Bool) → List ℕ → Bool
is_named names line = passes names (cookie_of_line line)

-- the lines but for those of the cookies that pass the test
abbrev pub other_lines : (Row → Bool) → List (List ℕ) → List (List ℕ)
other_lines names lines = filter (λ line. not (is_named names line)) lines

-- the rows have no row with the key of the cookie
abbrev pub is_gone : List Row → Row → Bool
is_gone rows cookie = not (is_some (row_of (key_of cookie) rows))

-- the file without the lines of the cookies that the rows do not have
abbrev pub retained_text : List Row → List ℕ → List ℕ
retained_text rows text = concat (other_lines (is_gone rows) (ended_lines text))

-- the line end of a file: CRLF if its first line has it, else LF
abbrev pub line_end : List ℕ → List ℕ
line_end text = if ends_with nat_eq (before_first is_newline text) (codes "\r") then 13 ∷ 10 ∷ [] else 10 ∷ []

-- what a session cookie has for its expiry in a file
abbrev pub session_expiry : List ℕ → SessionExpiry
session_expiry text = if list_any has_empty_expiry (pieces 10 text) then Empty else Zero

-- the line of a cookie in a file, with its line end
abbrev pub new_line : List ℕ → Row → List ℕ
new_line text cookie = line_in (session_expiry text) cookie ++ line_end text

-- the line end that the last line of a file lacks
abbrev pub missing_end : List ℕ → List ℕ
missing_end text = if (length text == 0) || ends_with nat_eq text (codes "\n") then [] else line_end text

-- a line of the file is that of a cookie that passes the test
abbrev pub has_named_line : (Row → Bool) → List ℕ → Bool
has_named_line names text = list_any (is_named names) (ended_lines text)

-- the lines with a new line in place of the first one that is named, and without the others that are
abbrev pub with_line : (Row → Bool) → List ℕ → List (List ℕ) → List (List ℕ)
with_line names new [] = []
with_line names new (line ∷ more) =
    if is_named names line then new ∷ other_lines names more else line ∷ with_line names new more

-- the file with a new line in place of the lines that are named, or after its last line if none is; `missing` is the line end that
-- the last line lacks
abbrev pub put_line_in : (Row → Bool) → List ℕ → List ℕ → List ℕ → List ℕ
put_line_in names new missing text =
    if has_named_line names text then concat (with_line names new (ended_lines text)) else text ++ missing ++ new

-- the file with the line of the cookie in place of the lines that it has, or else after the last line
abbrev pub put_text : List ℕ → Row → List ℕ
put_text text cookie = put_line_in (has_key (key_of cookie)) (new_line text cookie) (missing_end text) text

-- the rows with a new row in place of the first one that passes the test, and without the others that do; at the end if none does
abbrev pub with_row : (Row → Bool) → Row → List Row → List Row
with_row names new [] = new ∷ []
with_row names new (row ∷ more) =
    if names row then new ∷ filter (λ other. not (names other)) more else row ∷ with_row names new more

-- the row has the key of the cookie, or the key that the cookie's line says, with the domain in lower case
abbrev pub is_set_by : Row → Row → Bool
is_set_by cookie row = has_key (key_of cookie) row || has_key (key_of (as_written cookie)) row
