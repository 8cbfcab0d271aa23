-- Rows saved as one string and loaded from one, by functions that return a string for rows, or cookies for a string, or an error.
-- `known` are the bytes of the source, if they are known; if not, nothing is said of them.
use Rattle.std.specs.Prelude.{◌≡◌, ◌≢◌, ℕ, ◌+◌, ◌≤◌, length, false, List, [], ◌++◌, Option, Some, Result, Ok, Err, IfSome, IsTrue, ◌⊎◌}
use Rattle.std.specs.Io.KnownBytes.{Appends, IsAtEnd, Keeps}
use Rattle.std.specs.Result.{result_map_both}
use Rattle.std.specs.Str.{is_utf8}
use Rattle.std.specs.declared.alloc.Global.{Global}
use Rattle.std.specs.declared.string.String.{String}
use Rattle.std.specs.declared.vec.Vec.{Vec}
use Rattle.cookie_device.specs.Device.{AppendsPrefix, SinkState, SourceState}
use Rattle.cookie_parts.specs.Cookie.{Row}
use Rattle.cookie_parts.specs.declared.error.Error.{Error}
use Rattle.cookie_parts.specs.declared.error.Error.TheVariants.{Io, Memory, NotUtf8}
use Rattle.cookie_laws.specs.Rows.{RowsInOrder}
use Rattle.cookie_serde.specs.Saving.{line_text}
use Rattle.cookie_serde.specs.Selections.{built_from}
use Rattle.cookie_serde.specs.declared.which.Which.{Which}

module _ (Serializes : List Row → Result (String Global) Error → Type 0) where
  -- a string for the rows and a line feed were written
  abbrev pub WritesList : List Row → Option (List ℕ) → Option (List ℕ) → Type 0
  WritesList rows old new = (text : String Global) × Serializes rows (Ok text) × Appends old new (line_text text)

  -- the function returned an error and nothing was written; or a write failed, which added one to the failures, after a beginning of
  -- the string and its line feed
  abbrev pub FailsToSaveList : Error → List Row → SinkState → SinkState → Type 0
  FailsToSaveList error rows old new =
      (Serializes rows (Err error) × Keeps old.contents new.contents × (new.failed ≡ old.failed))
      ⊎ ((text : String Global) × Serializes rows (Ok text) × AppendsPrefix old.contents new.contents (line_text text)
      × (error ≡ Io) × (new.failed ≡ old.failed + 1))

-- the result of a function on copies of the rows, or out of memory for the copies
abbrev pub SerializesCopies : (Vec Row Global → Result (String Global) Error → Type 0) → List Row → Result (String Global) Error → Type 0
SerializesCopies Serializes rows expected =
    ((copies : Vec Row Global) × (copies.items ≡ rows) × Serializes copies expected) ⊎ ((expected ≡ Err Memory) × (rows ≢ []))

-- these are all bytes of the source, if they are known
abbrev pub IsAll : Option (List ℕ) → List ℕ → Type 0
IsAll known text = IfSome known (λ all. all ≡ text)

module _ (Parses : List ℕ → Result (List Row) Error → Type 0) where
  -- the bytes are UTF-8, and the function may return these cookies for them
  abbrev pub ParsesToCookies : List ℕ → List Row → Type 0
  ParsesToCookies text cookies = IsTrue (is_utf8 text) × Parses text (Ok cookies)

  -- the bytes are not UTF-8, or the function returns an error
  abbrev pub RejectsText : Error → List ℕ → Type 0
  RejectsText error text = ((is_utf8 text ≡ false) × (error ≡ NotUtf8)) ⊎ (IsTrue (is_utf8 text) × Parses text (Err error))

  -- the rows built from the cookies of all bytes of the source
  abbrev pub BuildsFromList : Option (List ℕ) → Which → RowsInOrder → Type 0
  BuildsFromList known which kept =
      (text : List ℕ) × (cookies : List Row) × IsAll known text × ParsesToCookies text cookies
      × (kept ≡ built_from which cookies)

  -- the rows built from the cookies that the function may return for the string
  abbrev pub BuildsFromText : List ℕ → Which → RowsInOrder → Type 0
  BuildsFromText text which kept = (cookies : List Row) × Parses text (Ok cookies) × (kept ≡ built_from which cookies)

  -- the function returns the error, or it ran out of memory for the cookies
  abbrev pub FailsAtText : Error → List ℕ → Type 0
  FailsAtText error text = Parses text (Err error) ⊎ ((error ≡ Memory) × (cookies : List Row) × Parses text (Ok cookies) × (cookies ≢ []))

  -- all bytes were read: they are rejected, or it ran out of memory for their cookies
  abbrev pub RejectsList : Error → Option (List ℕ) → Type 0
  RejectsList error known =
      (text : List ℕ) × IsAll known text
      × (RejectsText error text ⊎ ((error ≡ Memory) × (cookies : List Row) × ParsesToCookies text cookies × (cookies ≢ [])))

-- reading stopped within the bytes, after at most as many reads as bytes were read; the other bytes are left
abbrev pub StopsWithin : SourceState → SourceState → List ℕ → Type 0
StopsWithin old new text =
    (given rest : List ℕ) × (text ≡ given ++ rest) × (new.remaining ≡ Some rest) × (old.reads_left ≤ new.reads_left + length given)

-- all bytes were read and loading failed; or reading stopped: a read failed, which added one to the failures, or it ran out of memory
abbrev pub FailsToLoadList : (List ℕ → Result (List Row) Error → Type 0) → Error → SourceState → SourceState → Type 0
FailsToLoadList Parses error old new =
    (RejectsList Parses error old.remaining × IsAtEnd new.remaining × (new.failed ≡ old.failed))
    ⊎ (IfSome old.remaining (StopsWithin old new)
    × (((error ≡ Io) × (new.failed ≡ old.failed + 1)) ⊎ ((error ≡ Memory) × (new.failed ≡ old.failed))))

-- the result of a function that returns a vector
abbrev pub ParsesToVec : (List ℕ → Result (Vec Row Global) Error → Type 0) → List ℕ → Result (List Row) Error → Type 0
ParsesToVec Parses text expected =
    (reported : Result (Vec Row Global) Error) × Parses text reported
    × (expected ≡ result_map_both (λ cookies. cookies.items) (λ error. error) reported)
