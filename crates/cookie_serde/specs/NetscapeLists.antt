-- Rows saved as a `cookies.txt` file, and loaded from one. `known` are the bytes of the source, if they are known.
use Rattle.std.specs.Prelude.{◌≡◌, ◌≢◌, ℕ, ◌+◌, false, not, List, [], ◌∷◌, ◌++◌, filter, length, Option, Some, Result, Ok, Err, IfSome, IsTrue, ◌⊎◌, string_bytes}
use Rattle.std.specs.Io.KnownBytes.{Appends, IsAtEnd, Keeps}
use Rattle.std.specs.List.{list_all}
use Rattle.std.specs.Str.{is_utf8}
use Rattle.std.specs.Str.Lines.{lines}
use Rattle.std.specs.declared.alloc.Global.{Global}
use Rattle.std.specs.declared.string.String.{String}
use Rattle.cookie_device.specs.Device.{AppendsPrefix, SinkState, SourceState}
use Rattle.cookie_parts.specs.Cookie.{Row}
use Rattle.cookie_netscape.specs.Files.{FailsToRead, malformed_from, rows_in_file, well_formed_rows}
use Rattle.cookie_netscape.specs.Written.{is_representable, written_text}
use Rattle.cookie_netscape.specs.declared.error.NetscapeError.{NetscapeError}
use Rattle.cookie_netscape.specs.declared.error.NetscapeError.TheVariants.{BadLine, Unrepresentable, Io, NotUtf8, Memory}
use Rattle.cookie_laws.specs.Rows.{RowsInOrder}
use Rattle.cookie_serde.specs.SavedLists.{IsAll, StopsWithin}
use Rattle.cookie_serde.specs.Selections.{built_from}
use Rattle.cookie_serde.specs.declared.which.Which.{Which}

-- the result of writing rows: `Unrepresentable` if the format cannot represent one of them, else the file without its last line end, or
-- `Memory`
abbrev pub SerializesToNetscape : List Row → Result (String Global) NetscapeError → Type 0
SerializesToNetscape rows (Ok text) = IsTrue (list_all is_representable rows) × (string_bytes text ≡ written_text rows)
SerializesToNetscape rows (Err Unrepresentable) = list_all is_representable rows ≡ false
SerializesToNetscape rows (Err Memory) = IsTrue (list_all is_representable rows)
SerializesToNetscape rows (Err (BadLine line)) = ⊥
SerializesToNetscape rows (Err Io) = ⊥
SerializesToNetscape rows (Err NotUtf8) = ⊥

-- the file of the rows
abbrev pub file_text : List Row → List ℕ
file_text rows = written_text rows ++ 10 ∷ []

-- the format can represent the rows, and their file was written
abbrev pub WritesNetscape : List Row → Option (List ℕ) → Option (List ℕ) → Type 0
WritesNetscape rows old new = IsTrue (list_all is_representable rows) × Appends old new (file_text rows)

-- how many of the rows the format cannot represent
abbrev pub unrepresentable_count : List Row → ℕ
unrepresentable_count rows = length (filter (λ row. not (is_representable row)) rows)

-- nothing was written, and there is no file for the rows or no memory; or a write failed, which added one to the failures, after a
-- beginning of the file
abbrev pub FailsToSaveNetscape : NetscapeError → List Row → SinkState → SinkState → Type 0
FailsToSaveNetscape error rows old new =
    (SerializesToNetscape rows (Err error) × Keeps old.contents new.contents × (new.failed ≡ old.failed))
    ⊎ (IsTrue (list_all is_representable rows) × AppendsPrefix old.contents new.contents (file_text rows)
    × (error ≡ Io) × (new.failed ≡ old.failed + 1))

-- the rows built from the cookies of a string
abbrev pub BuildsFromNetscape : List ℕ → Which → RowsInOrder → Type 0
BuildsFromNetscape text which kept =
    (rows : List Row) × (rows_in_file text ≡ Some rows) × (kept ≡ built_from which rows)

-- the rows built from the cookies of the lines that are not malformed, and the numbers of the others
abbrev pub BuildsWellFormed : List ℕ → Which → RowsInOrder → List ℕ → Type 0
BuildsWellFormed text which kept malformed =
    (kept ≡ built_from which (well_formed_rows (lines text))) × (malformed ≡ malformed_from 1 (lines text))

-- a line is a cookie or malformed
abbrev pub HasCookieOrMalformed : List ℕ → Type 0
HasCookieOrMalformed text = (well_formed_rows (lines text) ≢ []) ⊎ (malformed_from 1 (lines text) ≢ [])

-- out of memory, and a line is a cookie or malformed
abbrev pub FailsToReadWellFormed : NetscapeError → List ℕ → Type 0
FailsToReadWellFormed error text = (error ≡ Memory) × HasCookieOrMalformed text

-- these are all bytes of the source, and they are UTF-8
abbrev pub IsFile : Option (List ℕ) → List ℕ → Type 0
IsFile known text = IsAll known text × IsTrue (is_utf8 text)

-- the rows built from the cookies of the file
abbrev pub LoadsNetscape : Option (List ℕ) → Which → RowsInOrder → Type 0
LoadsNetscape known which kept =
    (text : List ℕ) × IsFile known text × BuildsFromNetscape text which kept

-- the rows built from the cookies of the lines of the file that are not malformed, and the numbers of the others
abbrev pub LoadsWellFormed : Option (List ℕ) → Which → RowsInOrder → List ℕ → Type 0
LoadsWellFormed known which kept malformed =
    (text : List ℕ) × IsFile known text × BuildsWellFormed text which kept malformed

-- all bytes were read and they are not UTF-8; or reading stopped: a read failed, which added one to the failures, or it ran out of memory
abbrev pub FailsToReadFile : NetscapeError → SourceState → SourceState → Type 0
FailsToReadFile error old new =
    ((text : List ℕ) × IsAll old.remaining text × (is_utf8 text ≡ false) × (error ≡ NotUtf8)
    × IsAtEnd new.remaining × (new.failed ≡ old.failed))
    ⊎ (IfSome old.remaining (StopsWithin old new)
    × (((error ≡ Io) × (new.failed ≡ old.failed + 1)) ⊎ ((error ≡ Memory) × (new.failed ≡ old.failed))))

-- the file was read, and reading its lines fails
abbrev pub FailsAtFile : (NetscapeError → List ℕ → Type 0) → NetscapeError → SourceState → SourceState → Type 0
FailsAtFile Fails error old new =
    (text : List ℕ) × IsFile old.remaining text × Fails error text × IsAtEnd new.remaining × (new.failed ≡ old.failed)

-- reading the file fails, or reading its lines
abbrev pub FailsToLoadNetscape : NetscapeError → SourceState → SourceState → Type 0
FailsToLoadNetscape error old new = FailsToReadFile error old new ⊎ FailsAtFile FailsToRead error old new

-- the same, where malformed lines are left out
abbrev pub FailsToLoadWellFormed : NetscapeError → SourceState → SourceState → Type 0
FailsToLoadWellFormed error old new = FailsToReadFile error old new ⊎ FailsAtFile FailsToReadWellFormed error old new
