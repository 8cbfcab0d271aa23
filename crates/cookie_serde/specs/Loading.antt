-- Rows loaded from lines, by a function that returns a cookie for a line, or an error. `known` are the bytes of the source, if they are
-- known; if not, nothing is said of them.
use Rattle.std.specs.Prelude.{◌≡◌, ◌==◌, ℕ, ◌+◌, ◌≤◌, length, position, false, List, ◌∷◌, ◌++◌, Option, Some, None, Result, Ok, Err, IfSome, IsTrue, ◌⊎◌}
use Rattle.std.specs.List.{AllZip}
use Rattle.std.specs.Str.{is_utf8}
use Rattle.std.specs.Str.Lines.{lines}
use Rattle.cookie_device.specs.Device.{SourceState}
use Rattle.cookie_parts.specs.Cookie.{Row}
use Rattle.cookie_parts.specs.declared.error.Error.{Error}
use Rattle.cookie_parts.specs.declared.error.Error.TheVariants.{Io, Memory, NotUtf8}
use Rattle.cookie_laws.specs.Rows.{RowsInOrder}
use Rattle.cookie_serde.specs.Selections.{TakesCookie, built_from}
use Rattle.cookie_serde.specs.declared.which.Which.{Which}

module _ (Parses : List ℕ → Result Row Error → Type 0) where
  -- the line is UTF-8, and the function may return this cookie for it
  abbrev pub ParsesToCookie : List ℕ → Row → Type 0
  ParsesToCookie line cookie = IsTrue (is_utf8 line) × Parses line (Ok cookie)

  -- the line is not UTF-8, or the function returns an error
  abbrev pub RejectsLine : Error → List ℕ → Type 0
  RejectsLine error line = ((is_utf8 line ≡ false) × (error ≡ NotUtf8)) ⊎ (IsTrue (is_utf8 line) × Parses line (Err error))

  -- loading fails with this error at the line: out of memory for its cookie, or the line is rejected
  abbrev pub FailsAtLine : Error → List ℕ → Type 0
  FailsAtLine error line = ((error ≡ Memory) × (cookie : Row) × ParsesToCookie line cookie) ⊎ RejectsLine error line

  -- the function may return these cookies for these lines, one for each
  abbrev pub AreCookies : List (List ℕ) → List Row → Type 0
  AreCookies texts cookies = AllZip ParsesToCookie texts cookies

  -- a line of the source, and all lines before it are cookies
  abbrev pub IsReached : List ℕ → List ℕ → Type 0
  IsReached line text =
      (before after : List (List ℕ)) × (cookies : List Row)
      × (lines text ≡ before ++ line ∷ after) × AreCookies before cookies

  -- loading fails with this error at a line that it reaches
  abbrev pub StopsAtLine : Error → Option (List ℕ) → Type 0
  StopsAtLine error known = (line : List ℕ) × FailsAtLine error line × IfSome known (IsReached line)

  -- the bytes are lines that are cookies, and a beginning of a line, without a line feed
  abbrev pub EndsWithinLine : List ℕ → Type 0
  EndsWithinLine bytes =
      (prefix part : List ℕ) × (before : List (List ℕ)) × (cookies : List Row)
      × (bytes ≡ prefix ++ part) × (position (λ b. b == 10) part ≡ None)
      × (lines bytes ≡ before ++ lines part) × AreCookies before cookies

  -- such bytes were read, by at most as many reads as there are bytes, and the other bytes of the source are left
  abbrev pub StopsWithinLine : SourceState → SourceState → List ℕ → Type 0
  StopsWithinLine old new text =
      (given rest : List ℕ) × (text ≡ given ++ rest) × (new.remaining ≡ Some rest) × EndsWithinLine given
      × (old.reads_left ≤ new.reads_left + length given)

  -- a cookie that the function may return for the line was added to the rows
  abbrev pub InsertsLine : List ℕ → Which → RowsInOrder → RowsInOrder → Type 0
  InsertsLine line which old new =
      (cookie : Row) × ParsesToCookie line cookie × TakesCookie which cookie old new

  -- the rows built from the cookies of the lines of the source, if its bytes are known
  abbrev pub BuildsFrom : Option (List ℕ) → Which → RowsInOrder → Type 0
  BuildsFrom known which kept =
      (texts : List (List ℕ)) × (cookies : List Row) × AreCookies texts cookies
      × (kept ≡ built_from which cookies) × IfSome known (λ text. texts ≡ lines text)

  -- loading fails at a line; or within a line: a read failed, which added one to the failures, or it ran out of memory
  abbrev pub FailsToLoad : Error → SourceState → SourceState → Type 0
  FailsToLoad error old new =
      (StopsAtLine error old.remaining × (new.failed ≡ old.failed))
      ⊎ (IfSome old.remaining (StopsWithinLine old new)
      × (((error ≡ Io) × (new.failed ≡ old.failed + 1)) ⊎ ((error ≡ Memory) × (new.failed ≡ old.failed))))

-- at most one more read succeeded than the source has bytes, if they are known
abbrev pub ReadsEachOnce : SourceState → SourceState → Type 0
ReadsEachOnce old new = IfSome old.remaining (λ text. old.reads_left ≤ new.reads_left + length text + 1)
