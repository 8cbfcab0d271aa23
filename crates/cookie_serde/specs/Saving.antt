-- Rows saved as lines, by a function that returns a string for a row, or an error.
use Rattle.std.specs.Prelude.{◌≡◌, ℕ, ◌+◌, Bool, ◌&&◌, ◌⊎◌, List, [], ◌∷◌, ◌++◌, flat_map, filter, string_bytes, Option, Result, Ok, Err}
use Rattle.std.specs.Io.KnownBytes.{Appends}
use Rattle.std.specs.List.{AllZip}
use Rattle.std.specs.declared.alloc.Global.{Global}
use Rattle.std.specs.declared.string.String.{String}
use Rattle.cookie_words.specs.Moments.{Moment}
use Rattle.cookie_device.specs.Device.{AppendsPrefix, SinkState}
use Rattle.cookie_parts.specs.Cookie.{Row, is_persistent}
use Rattle.cookie_parts.specs.declared.error.Error.{Error}
use Rattle.cookie_parts.specs.declared.error.Error.TheVariants.{Io}
use Rattle.cookie_laws.specs.Rows.{is_unexpired}

-- the row is unexpired and persistent
abbrev pub is_saved : Moment → Row → Bool
is_saved now row = is_unexpired now row && is_persistent row.expires

-- the rows that are saved at a time
abbrev pub saved_rows : Moment → List Row → List Row
saved_rows now rows = filter (is_saved now) rows

-- a string and a line feed
abbrev pub line_text : String Global → List ℕ
line_text text = string_bytes text ++ 10 ∷ []

-- strings, each with a line feed
abbrev pub lines_text : List (String Global) → List ℕ
lines_text texts = flat_map line_text texts

module _ (Serializes : Row → Result (String Global) Error → Type 0) where
  -- strings that the function may return for these rows, one for each
  abbrev pub AreTexts : List Row → List (String Global) → Type 0
  AreTexts rows texts = AllZip (λ row text. Serializes row (Ok text)) rows texts

  -- the line of the row was written
  abbrev pub WritesRow : Row → Option (List ℕ) → Option (List ℕ) → Type 0
  WritesRow row old new = (text : String Global) × Serializes row (Ok text) × Appends old new (line_text text)

  -- a beginning of the row's line was written
  abbrev pub BeginsRow : Row → Option (List ℕ) → Option (List ℕ) → Type 0
  BeginsRow row old new = (text : String Global) × Serializes row (Ok text) × AppendsPrefix old new (line_text text)

  -- the line of each row was written, in order, and nothing else
  abbrev pub WritesRows : List Row → Option (List ℕ) → Option (List ℕ) → Type 0
  WritesRows rows old new = (texts : List (String Global)) × AreTexts rows texts × Appends old new (lines_text texts)

  -- the function returned an error for a row; the lines of the rows before it were written, and nothing of its own
  abbrev pub StopsAtRow : Error → List Row → Option (List ℕ) → Option (List ℕ) → Type 0
  StopsAtRow error rows old new =
      (before : List Row) × (row : Row) × (after : List Row) × (rows ≡ before ++ row ∷ after)
      × Serializes row (Err error) × WritesRows before old new

  -- the lines of the rows before one were written, and a beginning of its own
  abbrev pub StopsWithinRow : List Row → Option (List ℕ) → Option (List ℕ) → Type 0
  StopsWithinRow rows old new =
      (before : List Row) × (row : Row) × (after : List Row) × (rows ≡ before ++ row ∷ after)
      × (texts : List (String Global)) × AreTexts before texts
      × (text : String Global) × Serializes row (Ok text)
      × (part : List ℕ) × (rest : List ℕ) × (line_text text ≡ part ++ rest) × Appends old new (lines_text texts ++ part)

  -- the function returned an error for a row, or a write failed within a row's line, which added one to the failures
  abbrev pub FailsToSave : Error → List Row → SinkState → SinkState → Type 0
  FailsToSave error rows old new =
      (StopsAtRow error rows old.contents new.contents × (new.failed ≡ old.failed))
      ⊎ (StopsWithinRow rows old.contents new.contents × (error ≡ Io) × (new.failed ≡ old.failed + 1))
